-- A buffer that is filled piece by piece.
use Rattle.std.proofs.Common.{◌≡◌, ℕ, ◌+◌, ◌-◌, ◌≤◌, List, [], ◌++◌, length, take, drop, Ok, Err, Result, sym, refl, ap, ◌∙◌, append_assoc, append-nil, add-zero, zero-add, arith, length-append, length-drop, take-append-drop, length-take-le, drop-drop, take_at}
use lib.Seq.{paste, drop-append-add}
use Rattle.std.proofs.lemmas.List.Edits.{paste_all, paste-paste}
use Rattle.std.proofs.lemmas.List.{drop_all}
use Rattle.buffers.specs.declared.BufferFault.{BufferFault}
use Rattle.buffers.specs.declared.BufferFault.TheVariants.{TooShort}
use Rattle.buffers.specs.Fronts.{Pasted, Filled, Written}

-- bytes put behind what was written so far
pub filled_more : (written bytes old mid new : List ℕ) (at : ℕ) → at ≡ length written → at + length bytes ≤ length old → Filled written old mid → Pasted at bytes mid new → Filled (written ++ bytes) old new
filled_more written bytes old mid new at here room filled put =
    let front : take at mid ≡ written = ap (take at) filled ∙ take_at written (drop (length written) old) at (sym here) in
    let back : drop (at + length bytes) mid ≡ drop (length (written ++ bytes)) old =
    ap (drop (at + length bytes)) filled
    ∙ ap (λ n. drop (n + length bytes) (written ++ drop (length written) old)) here
    ∙ drop-append-add written (drop (length written) old) (length bytes)
    ∙ drop-drop (length bytes) (length written) old
    ∙ ap (λ n. drop n old) (sym (length-append written bytes)) in
    put ∙ ap (λ l. l ++ (bytes ++ drop (at + length bytes) mid)) front ∙ ap (λ l. written ++ (bytes ++ l)) back ∙ sym (append_assoc written bytes (drop (length (written ++ bytes)) old))

-- before anything is written
pub filled_none : (old : List ℕ) → Filled [] old old
filled_none old = refl

-- nothing pasted
pub pasted_none : (at : ℕ) (old : List ℕ) → Pasted at [] old old
pasted_none at old = sym (ap (λ n. take at old ++ drop n old) (add-zero at) ∙ take-append-drop at old)

-- one piece right behind another
pub pasted_more : (at end : ℕ) (old mid new first bytes : List ℕ) → at ≤ length old → end ≡ at + length first → Pasted at first old mid → Pasted end bytes mid new → Pasted at (first ++ bytes) old new
pasted_more at end old mid new first bytes low here before put =
    let n = length first in
    let m = length bytes in
    let size : n + m ≡ length (first ++ bytes) = sym (length-append first bytes) in
    put
    ∙ sym (paste_all mid end bytes m refl)
    ∙ (λ i. paste ((before ∙ sym (paste_all old at first n refl)) i) (here i) bytes m)
    ∙ paste-paste old at first bytes n m refl refl low
    ∙ paste_all old at (first ++ bytes) (n + m) size
    ∙ ap (λ k. take at old ++ ((first ++ bytes) ++ drop (at + k) old)) size

-- what is pasted at the start fills the front
pub filled_from : (bytes old new : List ℕ) → Pasted 0 bytes old new → Filled bytes old new
filled_from bytes old new pasted = pasted ∙ ap (λ n. bytes ++ drop n old) (zero-add (length bytes))

-- a buffer keeps its length
pub pasted_length : (at : ℕ) (bytes old new : List ℕ) → at + length bytes ≤ length old → Pasted at bytes old new → length new ≡ length old
pasted_length at bytes old new room pasted =
    let front : length (take at old) ≡ at = length-take-le at old (omega arith) in
    let all = length-append (take at old) (bytes ++ drop (at + length bytes) old) in
    let rest = length-append bytes (drop (at + length bytes) old) in
    let back = length-drop (at + length bytes) old in
    ap length pasted ∙ omega arith

-- a buffer of just the length holds nothing else
pub written_whole : (bytes old new : List ℕ) (r : Result ℕ BufferFault) → Written bytes old new r → length old ≡ length bytes → new ≡ bytes
written_whole bytes old new (Ok n) written same = written.2 ∙ ap (λ l. bytes ++ l) (drop_all (length bytes) old (omega arith)) ∙ append-nil bytes
written_whole bytes old new (Err TooShort) written same = absurd (omega (arith, written.0))

-- the front that was written, taken out again
pub taken_front : (bytes old new : List ℕ) (n : ℕ) → n ≡ length bytes → Filled bytes old new → take (n - 0) new ≡ bytes
taken_front bytes old new n size filled =
    let whole : length bytes ≡ n - 0 = omega arith in
    ap (take (n - 0)) filled ∙ take_at bytes (drop (length bytes) old) (n - 0) whole
