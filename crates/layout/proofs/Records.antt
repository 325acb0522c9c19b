-- Reading the records of a file one after the other.
use Rattle.std.proofs.Common.{◌≡◌, ℕ, zero, suc, ◌+◌, ◌<◌, ◌≤◌, Bool, true, false, cond, not, ◌||◌, eqb, ltb, List, [], ◌∷◌, ◌++◌, length, take, is_some, is_err, Some, None, Option, Result, sym, refl, ap, ◌∙◌, subst, ⊎_elim, arith, length-take-le, get_or-take}
use Rattle.std.proofs.lemmas.List.FromFn.{length-map-range_with_len, get_or-map-range_with_len}
use Rattle.std.proofs.lemmas.List.{take_more, take_all}
use Rattle.std.proofs.lemmas.Bool.{or_left, or_right, or_from, or_parts, leb-false, le-ltb, cond-true, cond-false, cases_eq, cases_Bool, both_ways, eq-eqb, not_from_true, true≢false, false≢true}
use Rattle.items.specs.declared.Item.{Item}
use Rattle.items.specs.declared.Refusal.{Refusal}
use Rattle.items.specs.declared.Refusal.TheVariants.{ResourceCount, BitTime as BitRefusal}
use Rattle.items.specs.Items.{no_item, item_at, with_item}
use Rattle.items.specs.Conditions.{outside, some_above, open_refusal, place_refusal}
use Rattle.items.specs.Journal.{State, fresh, made, visited}
use Rattle.items.specs.Ledger.{edit, placed}
use Rattle.items.specs.Refusals.{as_result}
use Rattle.items.proofs.Accepted.{not_outside, not_above, openable}
use Rattle.items.proofs.Rebuilt.{with_last}
use Rattle.layout.specs.declared.FileFault.{FileFault}
use Rattle.layout.specs.declared.FileFault.TheVariants.{Length, Sizes, BitTime, Record}
use Rattle.layout.specs.Format.{file_of, size_of}
use Rattle.layout.specs.Reading.{resources_in, items_in, bits_of, item_in, items_of, head_fault, Fitted, descends, has_spare, bad_record, IsSentBack, ReadsAs, NoFile}
use Rattle.layout.specs.Stands.{Bytes}
use Rattle.layout.proofs.Bytes.{length_part}
use Rattle.layout.proofs.Laid.{bits_is, items_are, head_good, none_bad}
use Rattle.layout.proofs.Whole.{file_again}

module _ (b : List ℕ) where
  pub item_at_is : (k : ℕ) → k < items_in b → item_at (items_of b) k ≡ item_in b k
  item_at_is k within = get_or-map-range_with_len (item_in b) 0 (items_in b) k k no_item within (omega arith)

  -- numbers ascend as long as none descends
  rises : (k : ℕ) → ((j : ℕ) → j ≤ k → descends b j ≡ false) → (j : ℕ) → j < k → (item_in b j).number < (item_in b k).number
  rises zero up j less = absurd (omega arith)
  rises (suc k) up j less =
      let step : (item_in b k).number < (item_in b (suc k)).number = leb-false _ _ (up (suc k) (omega arith)) in
      ⊎_elim
      (λ same. subst (λ i. (item_in b i).number < (item_in b (suc k)).number) (sym same) step)
      (λ other. let before : j < k = omega arith in omega (arith, rises k (λ i low. up i (omega arith)) j before))
      (cases_eq j k)

  module _ (k : ℕ) (within : k < items_in b) (good : (j : ℕ) → j < k → bad_record b j ≡ false) (up : descends b k ≡ false) where
    -- so the item at k goes behind those before it
    pub taken_more : with_item (item_in b k) (take k (items_of b)) ≡ take (k + 1) (items_of b)
    taken_more =
        let long : length (items_of b) ≡ items_in b = length-map-range_with_len (item_in b) 0 (items_in b) in
        let few : length (take k (items_of b)) ≡ k = length-take-le k (items_of b) (omega arith) in
        with_last (item_in b k) (take k (items_of b)) (λ j below. lower j (omega arith))
        ∙ ap (λ x. take k (items_of b) ++ x ∷ []) (sym (item_at_is k within))
        ∙ sym (take_more (items_of b) k no_item (omega arith))
      where
        ups : (j : ℕ) → j ≤ k → descends b j ≡ false
        ups j low = ⊎_elim (λ same. subst (λ i. descends b i ≡ false) (sym same) up) (λ other. (or_parts (descends b j) _ (good j (omega arith))).0) (cases_eq j k)

        lower : (j : ℕ) → j < k → (item_at (take k (items_of b)) j).number < (item_in b k).number
        lower j less =
            let is : item_at (take k (items_of b)) j ≡ item_in b j = get_or-take k (items_of b) j no_item less ∙ item_at_is j (omega arith) in
            subst (λ (x : Item). x.number < (item_in b k).number) (sym is) (rises k ups j less)

  module _ (k : ℕ) where
    pub bad_descends : descends b k ≡ true → bad_record b k ≡ true
    bad_descends is = or_left (descends b k) _ is

    pub bad_refused : (r : Refusal) → place_refusal (bits_of b) (take k (items_of b)) (item_in b k) ≡ Some r → bad_record b k ≡ true
    bad_refused r is = or_right (descends b k) _ (or_left _ (has_spare b k) (ap is_some is))

    pub bad_spare : has_spare b k ≡ true → bad_record b k ≡ true
    bad_spare is = or_right (descends b k) _ (or_right (is_some (place_refusal (bits_of b) (take k (items_of b)) (item_in b k))) (has_spare b k) is)

    pub good_record : descends b k ≡ false → place_refusal (bits_of b) (take k (items_of b)) (item_in b k) ≡ None → has_spare b k ≡ false → bad_record b k ≡ false
    good_record up accepted none = or_from (descends b k) _ up (or_from _ (has_spare b k) (ap is_some accepted) none)

-- the head of a file of the right length is at fault only by its bit times
module _ (b : List ℕ) (n m : ℕ) (fitted : Fitted b n m) where
  past_sizes : head_fault b ≡ cond (some_above 100 (bits_of b)) (Some BitTime) None
  past_sizes =
      let low : 1 ≤ resources_in b = subst (λ k. 1 ≤ k) fitted.first fitted.low in
      let high : resources_in b ≤ 16 = subst (λ k. k ≤ 16) fitted.first fitted.high in
      let few : items_in b ≤ 256 = subst (λ k. k ≤ 256) fitted.second fitted.few in
      let whole = fitted.whole in
      let same : length b ≡ size_of (resources_in b) (items_in b) = whole ∙ (λ i. size_of (fitted.first i) (fitted.second i)) in
      cond-false _ _ _ (le-ltb (length b) 4 (omega arith))
      ∙ cond-false _ _ _ (or_from (outside 1 16 (resources_in b)) (ltb 256 (items_in b)) (not_outside 1 16 (resources_in b) low high) (le-ltb 256 (items_in b) few))
      ∙ cond-false _ _ _ (not_from_true _ (eq-eqb (length b) (size_of (resources_in b) (items_in b)) same))

  pub head_opens : open_refusal (bits_of b) ≡ None → head_fault b ≡ None
  head_opens opens = past_sizes ∙ cond-false _ _ _ (not_above 100 (bits_of b) (openable (bits_of b) opens).each)

  pub head_shut : (r : Refusal) → open_refusal (bits_of b) ≡ Some r → head_fault b ≡ Some BitTime
  head_shut r shut =
      ⊎_elim
      (λ high. past_sizes ∙ cond-true _ _ _ high)
      (λ none. absurd (open_none none))
      (cases_Bool (some_above 100 (bits_of b)))
    where
      open_none : some_above 100 (bits_of b) ≡ false → ⊥
      open_none none =
          let whole = fitted.whole in
          let long : length (bits_of b) ≡ n = length_part b 4 (resources_in b) (omega (arith, fitted.first)) ∙ sym fitted.first in
          let inside : outside 1 16 (length (bits_of b)) ≡ false = not_outside 1 16 (length (bits_of b)) (omega (arith, fitted.low)) (omega (arith, fitted.high)) in
          let opens : open_refusal (bits_of b) ≡ None = cond-false _ (Some ResourceCount) _ inside ∙ cond-false _ (Some BitRefusal) None none in
          let z : ◌≡◌ {A = ℕ} 0 1 = cc in
          omega arith

-- a test whose fault is none of a record
past : (k : ℕ) (t : Bool) (fault : FileFault) (rest : Option FileFault) → (fault ≡ Record k → ⊥) → cond t (Some fault) rest ≡ Some (Record k) → rest ≡ Some (Record k)
past k true fault rest ne e = let same : fault ≡ Record k = cc in absurd (ne same)
past k false fault rest ne e = e

clash : {A : Type 0} (o : Option A) (x : A) → o ≡ None → o ≡ Some x → ⊥
clash None x none some = let z : ◌≡◌ {A = ℕ} 0 1 = cc in omega arith
clash (Some y) x none some = let z : ◌≡◌ {A = ℕ} 0 1 = cc in omega arith

-- what a head's fault says
pub head_sent : (b : List ℕ) (fault : FileFault) → head_fault b ≡ Some fault → IsSentBack b fault
head_sent b Length is = is
head_sent b Sizes is = is
head_sent b BitTime is = is
head_sent b (Record k) is =
    let apart_length : Length ≡ Record k → ⊥ = λ e. let z : ◌≡◌ {A = ℕ} 0 1 = cc in omega arith in
    let apart_sizes : Sizes ≡ Record k → ⊥ = λ e. let z : ◌≡◌ {A = ℕ} 0 1 = cc in omega arith in
    let apart_bits : BitTime ≡ Record k → ⊥ = λ e. let z : ◌≡◌ {A = ℕ} 0 1 = cc in omega arith in
    let sizes = past k (ltb (length b) 4) Length _ apart_length is in
    let whole = past k (outside 1 16 (resources_in b) || ltb 256 (items_in b)) Sizes _ apart_sizes sizes in
    let bits = past k (not (eqb (length b) (size_of (resources_in b) (items_in b)))) Length _ apart_length whole in
    absurd (clash None (Record k) refl (past k (some_above 100 (bits_of b)) BitTime None apart_bits bits))

-- what is sent back is no plan's file
pub no_file : (b : List ℕ) (fault : FileFault) → IsSentBack b fault → NoFile b
no_file b fault sent bits xs valid is = go fault sent
  where
    good : head_fault b ≡ None
    good = ap head_fault is ∙ head_good bits xs valid

    go : (fault : FileFault) → IsSentBack b fault → ⊥
    go Length sent = clash (head_fault b) Length good sent
    go Sizes sent = clash (head_fault b) Sizes good sent
    go BitTime sent = clash (head_fault b) BitTime good sent
    go (Record k) sent =
        let within : k < items_in (file_of bits xs) = subst (λ l. k < items_in l) is sent.1.within in
        both_ways (bad_record b k) (ap (λ l. bad_record l k) is ∙ none_bad bits xs valid k within) sent.1.bad

-- the plan so far: its items are those of the first records, none of which is bad
pub record SoFar (b : List ℕ) (s : State) (k : ℕ) : Type 0 where
  pub head : head_fault b ≡ None
  pub bits : s.bits ≡ bits_of b
  pub items : s.items ≡ take k (items_of b)
  pub good : (j : ℕ) → j < k → bad_record b j ≡ false

-- once all records are read, the plan is the one whose file it is
pub read_all : (b : List ℕ) (n m : ℕ) (s t : State) → Bytes b → Fitted b n m → SoFar b s (items_in b) → t ≡ fresh s.bits s.items → ReadsAs b t
read_all b n m s t small fitted far is =
    let long : length (items_of b) ≡ items_in b = length-map-range_with_len (item_in b) 0 (items_in b) in
    let bits : t.bits ≡ bits_of b = ap (λ (u : State). u.bits) is ∙ far.bits in
    let items : t.items ≡ items_of b = ap (λ (u : State). u.items) is ∙ far.items ∙ take_all (items_in b) (items_of b) (omega arith) in
    let whole : length b ≡ size_of (resources_in b) (items_in b) = fitted.whole ∙ (λ i. size_of (fitted.first i) (fitted.second i)) in
    record {
      file = file_again b small whole far.good ∙ sym (λ i. file_of (bits i) (items i));
      only = λ bs xs valid same. (
        sym (bits ∙ ap bits_of same ∙ bits_is bs xs valid),
        sym (items ∙ ap items_of same ∙ items_are bs xs valid),
      );
      journal = ap (λ (u : State). u.journal) is;
    }

-- the refusal behind a call's result
pub refused_by : (o : Option Refusal) (r : Result Unit Refusal) → r ≡ as_result o → true ≡ is_err r → (q : Refusal) × (o ≡ Some q)
refused_by None r is err = let z : ◌≡◌ {A = Bool} true false = err ∙ ap is_err is in absurd (true≢false z)
refused_by (Some q) r is err = (q, refl)

pub accepted_by : (o : Option Refusal) (r : Result Unit Refusal) → r ≡ as_result o → false ≡ is_err r → o ≡ None
accepted_by None r is ok = refl
accepted_by (Some q) r is ok = let z : ◌≡◌ {A = Bool} false true = ok ∙ ap is_err is in absurd (false≢true z)

-- the state after a placement that was accepted
pub placed_in : (s t : State) (x : Item) → place_refusal s.bits s.items x ≡ None → t ≡ visited s (edit (placed x)) → (t.bits ≡ s.bits) × (t.items ≡ with_item x s.items)
placed_in s t x accepted is =
    let after = is ∙ ap (made s (placed x)) accepted in
    (ap (λ (u : State). u.bits) after, ap (λ (u : State). u.items) after)
