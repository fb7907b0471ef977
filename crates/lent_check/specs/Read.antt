-- One number of each lent record, where there are as many as places and it is wanted; zeros otherwise.
-- Assumes nothing.
use Rattle.std.specs.Prelude.{ℕ, ◌+◌, ◌<◌, ◌≤◌, Bool, true, false, ◌&&◌, List, map, ◌≡◌, length, replicate, get_or, set}
use Rattle.std.proofs.Math.Path.{sym}
use Rattle.std.proofs.Common.{◌∙◌}
use Rattle.std.proofs.Math.ListN.{length-map}
use Rattle.std.proofs.lemmas.List.{length-replicate}
use Rattle.std.proofs.Math.Dec.{eqb}
use borrow.Author.Tests.{eqb-true, eq-eqb}
use Rattle.base_octets.specs.Choice.{pick, and_right}
use Rattle.base_octets.specs.Places.{map_at}
use Rattle.unit_tunnel.specs.Numbering.{places}
use Rattle.unit_session.specs.declared.Session.{Session}
use Rattle.unit_session.specs.Session.{blank_at}
use Rattle.lent_records.specs.Mixed.{mixed, mixed_all, mixed-step}

unfoldable pub read_of : (Session → ℕ) → Bool → List Session → List ℕ
read_of f wanted l = pick (wanted && eqb (length l) places) (map f l) (replicate places 0)

pub read_all : (f : Session → ℕ) (l : List Session) → length l ≡ places → read_of f true l ≡ map f l
unfolding read_of
read_all f l n = rw (eq-eqb (length l) places n)

-- ---- laws in the words of the loop
pub read_none : (f : Session → ℕ) (wanted : Bool) (l : List Session) → (wanted && eqb (length l) places) ≡ false → replicate places 0 ≡ read_of f wanted l
unfolding read_of
read_none f wanted l e = rw e

-- a turn
pub read_step : (f : Session → ℕ) (l : List Session) (r : List ℕ) (i : ℕ) → i < length l
    → set (mixed i (map f l) r) i (f (get_or l i (blank_at 0))) ≡ mixed (i + 1) (map f l) r
read_step f l r i h = rw (← map_at f l i (blank_at 0) 0 h) (mixed-step i (map f l) r 0 (simp length-map h))

-- its end
pub read_end : (f : Session → ℕ) (wanted : Bool) (l : List Session) (i : ℕ) → (wanted && eqb (length l) places) ≡ true → length l ≤ i
    → mixed i (map f l) (replicate places 0) ≡ read_of f wanted l
unfolding read_of
read_end f wanted l i e h =
    let n = eqb-true (length l) places (and_right wanted (eqb (length l) places) e) in
    rw e (mixed_all i (map f l) (replicate places 0) (simp length-map h) (length-replicate {A = ℕ} places 0 ∙ sym n ∙ sym (length-map l f)))
