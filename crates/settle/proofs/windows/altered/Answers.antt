-- A window that differs, or none.
use Rattle.std.proofs.Common.{◌≡◌, ◌≢◌, ℕ, ◌<◌, Bool, true, false, List, length, take, sym, ap, ◌∙◌, subst, rules, tests, arith, length-take-le, ext_get_or}
use lib.ListN.{length-map}
use Rattle.std.specs.Bool.{MatchBool}
use Rattle.std.specs.List.{zip, AllWithin, HoldsAt}
use Rattle.std.proofs.lemmas.Iterator.{cases_from_any, YieldsList-from_slice, YieldsList-from_zip}
use Rattle.std.proofs.lemmas.Slice.Zip.{length-zip, get_or-zip}
use Rattle.tables.specs.Demands.{Span, nowhere, span}
use Rattle.consult.specs.declared.window.Window.{Window}
use Rattle.consult.specs.Windows.{span_of, spans_of}
use Rattle.consult.proofs.Fronts.{span_read}
use Rattle.settle.specs.Passes.{Differs}
use Rattle.settle.proofs.windows.altered.Goals as goal

abbrev Other : Window × Window → Type 0
Other p = span_of p.0 ≢ span_of p.1

abbrev Same : Window × Window → Type 0
Same p = span_of p.0 ≡ span_of p.1

-- any window, to read past an end with
some : Window
some = record { «open» = 0; close = 0; ordered = omega arith; narrow = omega arith; high = omega arith }

differs_from : (ws vs : List Window) → length ws ≡ length vs → (r : Bool) → MatchBool r ((k : ℕ) × (k < length (zip ws vs)) × HoldsAt Other (zip ws vs) k) (AllWithin Same (zip ws vs) 0 (length (zip ws vs))) → Differs (spans_of ws) (spans_of vs) r
differs_from ws vs size true found = λ same.
    let k = found.0 in
    let long = length-zip ws vs in
    let left : k < length ws = omega (arith, found.1) in
    let right : k < length vs = omega (arith, found.1) in
    subst Other (get_or-zip ws vs k (some, some) left right) (found.2 (some, some))
    (sym (span_read ws k some left) ∙ ap (λ (us : List Span). span us k) same ∙ span_read vs k some right)
differs_from ws vs size false all =
    let long = length-zip ws vs in
    let lengths : length (spans_of ws) ≡ length (spans_of vs) = length-map ws span_of ∙ size ∙ sym (length-map vs span_of) in
    ext_get_or nowhere (spans_of ws) (spans_of vs) lengths (λ k h.
    let left : k < length ws = omega (arith, length-map ws span_of) in
    let right : k < length vs = omega arith in
    span_read ws k some left ∙ subst Same (get_or-zip ws vs k (some, some) left right) (all k (some, some) (omega arith) (omega arith)) ∙ sym (span_read vs k some right))

pub returns : goal.returns
returns c =
    let ws = take c.args.count c.args.windows.now in
    let vs = take c.args.count c.args.next.now in
    let left = length-take-le c.args.count c.args.windows.now (omega arith) in
    let right = length-take-le c.args.count c.args.next.now (omega arith) in
    differs_from ws vs (left ∙ sym right) c.any.result
    (cases_from_any c.any.new.self _ c.any.result Other Same c.any.ensures.ran (YieldsList-from_zip (YieldsList-from_slice ws cc) (YieldsList-from_slice vs cc)) (λ x q k. search (rules, tests)) (λ x q k. search (rules, tests)))
