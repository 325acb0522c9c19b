-- The number of the fault.
use Rattle.std.specs.Prelude.{ℕ}
use Rattle.buffers.specs.declared.BufferFault.{BufferFault}
use Rattle.buffers.specs.declared.BufferFault.TheVariants.{TooShort}

abbrev pub buffer_number : BufferFault → ℕ
buffer_number TooShort = 23
