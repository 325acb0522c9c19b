-- Each turn of `ask_each` asks for one answer if its item is on the resource.
use Rattle.std.proofs.Common.{◌≡◌, ℕ, ◌<◌, ◌≢◌, List, length, take, sym, ap, ◌∙◌, arith, get_or-set_other, get_or-set_same, below_more}
use Rattle.std.proofs.lemmas.Bool.{eq-eqb, ne_eqb}
use Rattle.service.specs.declared.Response.{Response}
use Rattle.items.specs.Items.{item_at}
use Rattle.tables.specs.Demands.{items_on, place_on}
use Rattle.service.specs.Numbers.{Numbers}
use Rattle.consult.specs.Answers.{no_answer, answer, Says}
use Rattle.consult.proofs.Seats.{seat_more, seat_same}
use Rattle.consult.proofs.network.Network.ask_each.Goals as goal
use Rattle.consult.proofs.network.Network.ask_each.Goals.{then-item-resource, else-item-resource}

pub loop-at-preserved : goal.loop-at-preserved
loop-at-preserved g c =
    let rule : Numbers = g.R.Rule.numbers c.args.self.now.rule.now in
    let bit = c.args.bit_time in
    let rows = c.args.rows.now in
    let xs = c.args.self.now.items.now in
    let r = c.args.resource in
    let i = c.loop-at.at in
    let told = c.loop-at.answers in
    let p = c.loop-at.place in
    let h = c.loop-at-test.true in
    let P : ℕ → Type 0 = λ k. (item_at xs k).resource ≡ r → Says rule bit rows (place_on xs k) (answer c.if-item-resource.answers k) in
    elim c.if-item-resource.branch [
      | then-item-resource w ↦
          let on : (item_at xs i).resource ≡ r = omega (arith, w.if-item-resource.true) in
          let more = seat_more r xs i h (eq-eqb _ _ on) in
          let place : place_on xs i ≡ p = ap (λ (q : ℕ). length (items_on q (take i xs))) on ∙ sym c.loop-at.invariant.1 in
          let room : i < length told = omega (arith, c.loop-at.invariant.0, c.args.self.now.valid.size) in
          let new : answer c.if-item-resource.answers i ≡ w.respond.result = ap (λ (l : List Response). answer l i) w.answers-is ∙ get_or-set_same told i _ no_answer room in
          let same : (k : ℕ) → k ≢ i → answer c.if-item-resource.answers k ≡ answer told k = λ k ne. ap (λ (l : List Response). answer l k) w.answers-is ∙ get_or-set_other told i k _ no_answer ne in (
            c.if-item-resource.array_long,
            omega (arith, w.place-is, c.loop-at.invariant.1),
            omega (arith, w.place-is, c.loop-at.invariant.2),
            below_more P i
                (λ k lt yet. let ne : k ≢ i = omega arith in rw (same k ne) (c.loop-at.invariant.3 k lt yet))
                (λ _. record {
                  least = ap (λ (a : Response). a.least) new ∙ (w.respond.ensures.least ∙ ap (λ (q : ℕ). rule.least bit rows q) (sym place));
                  worst = ap (λ (a : Response). a.worst) new ∙ (w.respond.ensures.worst ∙ ap (λ (q : ℕ). rule.worst bit rows q) (sym place));
                }),
            λ k off. same k (λ e. off (ap (λ (j : ℕ). (item_at xs j).resource) e ∙ on)) ∙ c.loop-at.invariant.4 k off,
          )
      | else-item-resource w ↦
          let off : (item_at xs i).resource ≡ r → ⊥ = λ e. omega (arith, w.if-item-resource.false) in
          let more = seat_same r xs i h (ne_eqb _ _ off) in (
            c.if-item-resource.array_long,
            omega (arith, w.place-is, c.loop-at.invariant.1),
            omega (arith, w.place-is, c.loop-at.invariant.2),
            below_more P i (λ k lt yet. rw w.answers-is (c.loop-at.invariant.3 k lt yet)) (λ on. absurd (off on)),
            λ k away. rw w.answers-is (c.loop-at.invariant.4 k away),
          )
    ]
