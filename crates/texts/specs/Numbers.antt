-- The number under which something sent back is reported.
use Rattle.std.specs.Prelude.{ℕ}
use Rattle.items.specs.Refusals.{number_of}
use Rattle.settle.specs.Faults.{fault_number}
use Rattle.layout.specs.Faults.{file_number}
use Rattle.buffers.specs.Faults.{buffer_number}
use Rattle.texts.specs.declared.SentBack.{SentBack}
use Rattle.texts.specs.declared.SentBack.TheVariants.{Plan, Settle, File, Buffer}

-- the number that its own definition gives it
abbrev pub sent_number : SentBack → ℕ
sent_number (Plan refusal) = number_of refusal
sent_number (Settle fault) = fault_number fault
sent_number (File fault) = file_number fault
sent_number (Buffer fault) = buffer_number fault
