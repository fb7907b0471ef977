-- The changes of a record that a call makes of all, by their names.
-- Assumes nothing.
use Rattle.unit_session.specs.declared.Session.{Session}
use Rattle.unit_session.specs.Session.{blank_at, freed, ticked}
use Rattle.unit_table.specs.declared.Change.{Change}
use Rattle.unit_table.specs.declared.Change.TheVariants.{Free, Tick, Blank}

unfoldable pub changed_by : Change → Session → Session
changed_by Free s = freed s
changed_by (Tick most) s = ticked most s
changed_by Blank s = blank_at 0
