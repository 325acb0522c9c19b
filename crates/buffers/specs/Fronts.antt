-- A buffer of which only the front was written.
use Rattle.std.specs.Prelude.{◌≡◌, ℕ, ◌+◌, ◌<◌, ◌≤◌, List, ◌++◌, length, take, drop, Ok, Err, Result}
use Rattle.buffers.specs.declared.BufferFault.{BufferFault}
use Rattle.buffers.specs.declared.BufferFault.TheVariants.{TooShort}

-- bytes written from a place on: what was before and behind them is as it was
abbrev pub Pasted : ℕ → List ℕ → List ℕ → List ℕ → Type 0
Pasted at bytes old new = new ≡ take at old ++ (bytes ++ drop (at + length bytes) old)

-- the front holds what was written, and the rest is as it was
abbrev pub Filled : List ℕ → List ℕ → List ℕ → Type 0
Filled written old new = new ≡ written ++ drop (length written) old

-- what a writer answers: how many bytes it wrote into the front, or that they have no room, with the buffer as it was
abbrev pub Written : List ℕ → List ℕ → List ℕ → Result ℕ BufferFault → Type 0
Written bytes old new (Ok n) = (n ≡ length bytes) × (n ≤ length old) × Filled bytes old new
Written bytes old new (Err TooShort) = (length old < length bytes) × (new ≡ old)
