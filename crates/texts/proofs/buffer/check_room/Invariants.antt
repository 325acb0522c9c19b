-- The text has taken the rest of the room, but for the lines to come.
use Rattle.std.proofs.Common.{◌≡◌, ◌+◌, length, drop}
use Rattle.std.specs.List.{flat_map}
use Rattle.texts.specs.Texts.{row_line, table_text}
use Rattle.texts.proofs.buffer.check_room.Given as goal

abbrev pub invariant-loop-row : goal.invariant-loop-row
invariant-loop-row l = length (table_text l.windows.sweeps l.windows.rows.now) + l.left ≡ l.room + length (flat_map row_line (drop l.row-index l.windows.rows.now))
