-- What the words of a line say.
use Rattle.std.proofs.Common.{◌≡◌, ℕ, List, ◌++◌, take, drop, sym, ap, ◌∙◌, take-append-drop}
use Rattle.std.specs.Char.{is_not_whitespace}
use Rattle.std.specs.Str.{NoCharPasses, EmptyOrStartsWithPassing, EmptyOrEndsWithPassing}
use Rattle.listing.specs.Said.{Trims}

-- what `trim` says
pub trims : (line word : List ℕ) → (m : ℕ) × (n : ℕ) × (word ≡ take n (drop m line)) × NoCharPasses is_not_whitespace (take m line) × NoCharPasses is_not_whitespace (drop n (drop m line)) × ((rest : List ℕ) × EmptyOrStartsWithPassing is_not_whitespace word rest) × EmptyOrEndsWithPassing is_not_whitespace word → Trims line word
trims line word h =
    let m = h.0 in
    let n = h.1 in
    record {
      before = take m line;
      after = drop n (drop m line);
      cut = sym (take-append-drop m line) ∙ ap (λ l. take m line ++ l) (sym (take-append-drop n (drop m line)) ∙ ap (λ w. w ++ drop n (drop m line)) (sym h.2));
      blank_before = h.3;
      blank_after = h.4;
      first = h.5;
      last = h.6;
    }
