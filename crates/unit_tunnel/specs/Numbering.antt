-- How many places there are and how tunnel numbers are laid out. Each figure stands here alone: every law goes by the facts
-- below, so a unit of another size changes this file.
-- Assumes nothing.
use Rattle.std.specs.Prelude.{ℕ, ◌+◌, ◌*◌, ◌<◌, ◌≤◌}
use Rattle.std.proofs.Common.{arith}

-- the places of a unit
unfoldable pub places : ℕ
places = 64

-- a number is use × base + offset + place
unfoldable pub base : ℕ
base = 256

unfoldable pub control_offset : ℕ
control_offset = 0

unfoldable pub user_offset : ℕ
user_offset = 128

-- the last use of a place, after which comes 1
unfoldable pub last_use : ℕ
last_use = 16777215

-- a tunnel number has 32 bits
unfoldable pub teids : ℕ
teids = 4294967296

-- ---- what the laws need of these figures

pub base_some : 0 < base
unfolding base
base_some = omega arith

pub last_some : 0 < last_use
unfolding last_use
last_some = omega arith

pub control_fits : control_offset + places ≤ base
unfolding control_offset places base
control_fits = omega arith

pub user_fits : user_offset + places ≤ base
unfolding user_offset places base
user_fits = omega arith

-- the places' control numbers end before their user numbers begin
pub offsets_apart : control_offset + places ≤ user_offset
unfolding control_offset places user_offset
offsets_apart = omega arith

-- all uses of all places fit
pub teids_hold : last_use * base + base ≤ teids
unfolding last_use base teids
teids_hold = omega arith
