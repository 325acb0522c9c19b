-- The first place with no worst.
use Rattle.std.proofs.Common.{◌≡◌, ℕ, ◌<◌, ◌≤◌, List, length, take, subst, length-take-le, get_or-take, true, Some, None, Option, refl, rules, tests, arith}
use Rattle.std.specs.Option.{MatchOption, is_some}
use Rattle.std.specs.List.{AllWithin, HoldsAt}
use Rattle.std.proofs.lemmas.Bool.{false≢true}
use Rattle.std.proofs.lemmas.Iterator.{IsFirst-from_position, YieldsList-from_slice}
use Rattle.service.specs.declared.Response.{Response}
use Rattle.consult.specs.Answers.{no_answer}
use Rattle.settle.specs.Answers.{AllAnswered, LowestNone}
use Rattle.settle.proofs.windows.lowest_unbounded.Goals as goal

abbrev Bounded : Response → Type 0
Bounded a = is_some a.worst ≡ true

some_worst : (o : Option ℕ) → is_some o ≡ true → (w : ℕ) × (o ≡ Some w)
some_worst None e = absurd (false≢true e)
some_worst (Some w) e = (w, refl)

lowest_from : (answers : List Response) (n : ℕ) → n ≤ length answers → (r : Option ℕ) → MatchOption r (AllWithin Bounded (take n answers) 0 (length (take n answers))) (λ i. (i < length (take n answers)) × HoldsAt (λ a. a.worst ≡ None) (take n answers) i × AllWithin Bounded (take n answers) 0 i)
    → MatchOption r (AllAnswered answers n) (LowestNone answers n)
lowest_from answers n room None all = λ k h. let long = length-take-le n answers room in some_worst _ (subst Bounded (get_or-take n answers k no_answer h) (all k no_answer (omega arith) (omega arith)))
lowest_from answers n room (Some i) first =
    let long = length-take-le n answers room in
    let within : i < n = omega (arith, first.0) in
    record {
      within = within;
      none = subst (λ (a : Response). a.worst ≡ None) (get_or-take n answers i no_answer within) (first.1 no_answer);
      before = λ k h. some_worst _ (subst Bounded (get_or-take n answers k no_answer (omega arith)) (first.2 k no_answer (omega arith) h));
    }

pub returns : goal.returns
returns c =
    lowest_from c.args.answers.now c.args.count (omega arith) c.position.result
    (IsFirst-from_position _ _ c.position.result (λ a. a.worst ≡ None) Bounded c.position.ensures.ran (YieldsList-from_slice (take c.args.count c.args.answers.now) cc) (λ x q k. search (rules, tests)) (λ x q k. search (rules, tests)))
