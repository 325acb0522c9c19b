-- What the words of a line say, and what is wrong with words that say nothing.
use Rattle.std.specs.Prelude.{◌≡◌, ℕ, ◌+◌, ◌<◌, ◌≤◌, ◌⊎◌, List, [], length, vec_items, codes, ◌≢◌, slice_index, slice_index_or}
use Rattle.items.specs.declared.Item.{Item}
use Rattle.items.specs.declared.Work.{Work}
use Rattle.items.specs.declared.Work.TheVariants.{Task, Frame}
use Rattle.words.specs.Spoken.{Writes, Words}
use Rattle.commands.specs.declared.command.Command.{Command}
use Rattle.commands.specs.declared.command.Command.TheVariants.{Open, Place, Withdraw, Retime, Undo, Settle, Items}
use Rattle.commands.specs.declared.fault.Form.{Form}
use Rattle.commands.specs.declared.fault.Form.TheVariants as forms
use Rattle.commands.specs.declared.fault.Wrong.{Wrong}
use Rattle.commands.specs.declared.fault.Wrong.TheVariants as wrongs
use Rattle.script.specs.Fields.{Misread}

-- the word that a line of that form begins with
abbrev pub keyword : Form → List ℕ
keyword forms.Open = codes "open"
keyword forms.Place = codes "place"
keyword forms.Withdraw = codes "withdraw"
keyword forms.Retime = codes "retime"
keyword forms.Undo = codes "undo"
keyword forms.Settle = codes "settle"
keyword forms.Items = codes "items"

-- the form of the line that says a command
abbrev pub form_of : Command → Form
form_of (Open bits) = forms.Open
form_of (Place item) = forms.Place
form_of (Withdraw number) = forms.Withdraw
form_of (Retime number work) = forms.Retime
form_of Undo = forms.Undo
form_of (Settle budget switch rows) = forms.Settle
form_of Items = forms.Items

-- the words from a place to an end say the work
abbrev pub WorkWords : List (List ℕ) → ℕ → ℕ → Work → Type 0
WorkWords ws from end (Task least greatest) = (end ≡ from + 3) × (slice_index_or ws from [] ≡ codes "task") × Writes (slice_index_or ws (from + 1) []) least × Writes (slice_index_or ws (from + 2) []) greatest
WorkWords ws from end (Frame bytes) = (end ≡ from + 2) × (slice_index_or ws from [] ≡ codes "frame") × Writes (slice_index_or ws (from + 1) []) bytes

-- the words after the first say the item: three numbers, the work, three numbers
pub record ItemWords (ws : List (List ℕ)) (i : Item) : Type 0 where
  pub end : ℕ
  pub count : length ws ≡ end + 3
  pub number : Writes (slice_index_or ws 1 []) i.number
  pub resource : Writes (slice_index_or ws 2 []) i.resource
  pub priority : Writes (slice_index_or ws 3 []) i.priority
  pub work : WorkWords ws 4 end i.work
  pub predecessor : Writes (slice_index_or ws end []) i.predecessor
  pub period : Writes (slice_index_or ws (end + 1) []) i.period
  pub delay : Writes (slice_index_or ws (end + 2) []) i.delay

-- each word after the first, and before an end, writes a bit time
pub record BitWords (ws : List (List ℕ)) (end : ℕ) (bits : List ℕ) : Type 0 where
  pub count : end ≡ length bits + 1
  pub each : (k : ℕ) → k < length bits → Writes (slice_index_or ws (k + 1) []) (slice_index bits k)

-- the word at a place writes the number, which is the one for want of a word if there is none
abbrev pub Given : List (List ℕ) → ℕ → ℕ → ℕ → Type 0
Given ws at otherwise n = ((at < length ws) × Writes (slice_index_or ws at []) n) ⊎ ((length ws ≤ at) × (n ≡ otherwise))

-- a budget, then perhaps a switch, then perhaps a number of rows
pub record SettleWords (ws : List (List ℕ)) (budget switch rows : ℕ) : Type 0 where
  pub some : 2 ≤ length ws
  pub few : length ws ≤ 4
  pub budget_is : Writes (slice_index_or ws 1 []) budget
  pub switch_is : Given ws 2 0 switch
  pub switch_small : switch ≤ 1000
  pub rows_is : Given ws 3 256 rows

-- the words after the first say the command
abbrev pub Fits : List (List ℕ) → Command → Type 0
Fits ws (Open bits) = BitWords ws (length ws) (vec_items bits)
Fits ws (Place item) = ItemWords ws item
Fits ws (Withdraw number) = (length ws ≡ 2) × Writes (slice_index_or ws 1 []) number
Fits ws (Retime number work) = Writes (slice_index_or ws 1 []) number × WorkWords ws 2 (length ws) work
Fits ws Undo = length ws ≡ 1
Fits ws (Settle budget switch rows) = SettleWords ws budget switch rows
Fits ws Items = length ws ≡ 1

-- the words after the first say the command, which has that form
abbrev pub Said : Form → List (List ℕ) → Command → Type 0
Said form ws command = (form_of command ≡ form) × Fits ws command

-- what is wrong with words that should have that form
abbrev pub Amiss : Form → List (List ℕ) → Wrong → Type 0
Amiss form ws (wrongs.Command found) = ⊥
Amiss form ws (wrongs.Shape other) = other ≡ form
Amiss form ws (wrongs.Numeral e) = Misread ws (wrongs.Numeral e)
Amiss form ws wrongs.Memory = Unit {0}

-- the words say the command
abbrev pub SaysCommand : List (List ℕ) → Command → Type 0
SaysCommand ws command = (slice_index_or ws 0 [] ≡ keyword (form_of command)) × Fits ws command

-- what is wrong with the words: the first is no command, or what stands after it does not fit it
abbrev pub Faulty : List (List ℕ) → Wrong → Type 0
Faulty ws (wrongs.Command found) = (found.now ≡ slice_index_or ws 0 []) × ((form : Form) → found.now ≢ keyword form)
Faulty ws (wrongs.Shape form) = slice_index_or ws 0 [] ≡ keyword form
Faulty ws (wrongs.Numeral e) = Misread ws (wrongs.Numeral e)
Faulty ws wrongs.Memory = Unit {0}

-- the words of the line say the command
abbrev pub CommandLine : List ℕ → Command → Type 0
CommandLine line command = (ws : List (List ℕ)) × Words line ws × SaysCommand ws command

-- what is wrong with the line: its words, or there is no memory for them
abbrev pub LineWrong : List ℕ → Wrong → Type 0
LineWrong line e = (e ≡ wrongs.Memory) ⊎ ((ws : List (List ℕ)) × Words line ws × Faulty ws e)
