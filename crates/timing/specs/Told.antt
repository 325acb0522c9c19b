-- What is told of a file, for every list of bytes.
use Rattle.std.specs.Prelude.{ℕ, List, Ok, Err, Result}
use Rattle.items.specs.Journal.{State}
use Rattle.layout.specs.Reading.{ReadsAs, IsSentBack, NoFile}
use Rattle.settle.specs.declared.Fault.{Fault}
use Rattle.texts.specs.declared.SentBack.{SentBack}
use Rattle.texts.specs.declared.SentBack.TheVariants.{Plan, Settle, File, Buffer}
use Rattle.visits.specs.declared.visit.SettledTable.{SettledTable}
use Rattle.visits.specs.Answers.{SettlesAs}
use Rattle.known.specs.Rule.{over}
use Rattle.timing.specs.Line.{allows_over}

-- the bytes are the file of a plan, and this is what a settle of it comes to with a budget of 10,000 and room for every item
pub record SettlesFile (b : List ℕ) (settled : Result SettledTable Fault) : Type 0 where
  pub plan : State
  pub reads : ReadsAs b plan
  pub settles : SettlesAs (allows_over 0) (over 0) plan.bits plan.items 10000 256 settled

-- the windows of the plan, or why it does not settle, or why the bytes are no plan's file
abbrev pub Told : List ℕ → Result SettledTable SentBack → Type 0
Told b (Ok t) = SettlesFile b (Ok t)
Told b (Err (Settle fault)) = SettlesFile b (Err fault)
Told b (Err (File fault)) = IsSentBack b fault × NoFile b
Told b (Err (Plan refusal)) = ⊥
Told b (Err (Buffer fault)) = ⊥
