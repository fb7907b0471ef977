-- A session record, the rules of one record, and what the operations make of one. A record is built here and nowhere else.
-- Assumes nothing.
use Rattle.std.specs.Prelude.{ℕ, Bool, not, ◌&&◌, ◌||◌, ◌==◌, nat_le, nat_lt}
use Rattle.base_octets.specs.Choice.{pick}
use Rattle.unit_tunnel.specs.Numbering.{last_use}
use Rattle.unit_tunnel.specs.Tunnel.{next_use}
use Rattle.unit_session.specs.declared.OwnRequest.{OwnRequest}
use Rattle.unit_session.specs.declared.Session.{Session}
use Rattle.unit_session.specs.declared.Bounds.{Bounds}
use Rattle.unit_session.specs.declared.Opening.{Opening}
use Rattle.unit_session.specs.declared.Peers.{Peers}
use Rattle.unit_session.specs.OwnRequest.{idle, request_ok, awaits, sent_once, counted_down, spent}

-- 15 digits write a number below this
unfoldable pub imsis : ℕ
imsis = 1000000000000000

-- the creating sequence number has 24 bits
unfoldable pub last_created : ℕ
last_created = 16777215

unfoldable pub is_free : Session → Bool
is_free s = s.state == 0

unfoldable pub is_closing : Session → Bool
is_closing s = s.state == 2

-- ---- who it is
unfoldable pub has_id : ℕ → ℕ → Session → Bool
has_id imsi ebi s = not (is_free s) && s.imsi == imsi && s.ebi == ebi

unfoldable pub is_on : ℕ → Session → Bool
is_on a s = not (is_free s) && s.point == a

unfoldable pub waits_for : ℕ → Session → Bool
waits_for k s = awaits k s.own

-- ---- the rules of one record
-- what was read with the Create: a known access point, an IMSI of 15 digits, an EBI of 5 to 15, peer TEIDs other than 0
unfoldable pub read_ok : ℕ → ℕ → ℕ → ℕ → ℕ → ℕ → ℕ → Bool
read_ok parties point imsi ebi control user created =
    nat_lt point parties && nat_lt imsi imsis && nat_le 5 ebi && nat_le ebi 15
    && not (control == 0) && not (user == 0) && nat_le created last_created

-- zero but for its use
unfoldable pub blank : Session → Bool
blank s =
    (s.point == 0) && s.imsi == 0 && s.ebi == 0
    && s.control == 0 && s.controladdr == 0 && s.user == 0 && s.useraddr == 0
    && s.created == 0
    && s.own.timer == 0 && s.own.sends == 0 && s.own.number == 0

-- what a free record has to be
unfoldable pub free_ok : Session → Bool
free_ok s = nat_le s.usage last_use && blank s

unfoldable pub held_ok : Bounds → Session → Bool
held_ok b s =
    nat_le 1 s.usage
    && read_ok b.parties s.point s.imsi s.ebi s.control s.user s.created

-- live or closing; its own request in range, and nothing sent unless it is closing
unfoldable pub phase_ok : Bounds → Session → Bool
phase_ok b s =
    request_ok 0 b.resend b.sends s.own
    && (is_closing s || s.state == 1 && s.own.sends == 0)

unfoldable pub record_ok : Bounds → Session → Bool
record_ok b s = nat_le s.usage last_use && pick (is_free s) (blank s) (held_ok b s && phase_ok b s)

-- ---- what is made of a record
unfoldable pub blank_at : ℕ → Session
blank_at usage = record {
  imsi = 0;
  usage = usage;
  control = 0;
  controladdr = 0;
  user = 0;
  useraddr = 0;
  created = 0;
  own = idle;
  state = 0;
  point = 0;
  ebi = 0;
}

-- freeing sets a record to zero but for its use
unfoldable pub freed : Session → Session
freed s = blank_at s.usage

-- taking steps the use and opens a session
unfoldable pub opened : Opening → Session → Session
opened o s = record {
  imsi = o.imsi;
  usage = next_use s.usage;
  control = o.control;
  controladdr = o.controladdr;
  user = o.user;
  useraddr = o.useraddr;
  created = o.created;
  own = idle;
  state = 1;
  point = o.point;
  ebi = o.ebi;
}

-- other peer TEIDs and addresses, by a Modify
unfoldable pub moved : Peers → Session → Session
moved p s = record {
  imsi = s.imsi;
  usage = s.usage;
  control = p.control;
  controladdr = p.controladdr;
  user = p.user;
  useraddr = p.useraddr;
  created = s.created;
  own = s.own;
  state = s.state;
  point = s.point;
  ebi = s.ebi;
}

-- its state and its own request, all else as it was
unfoldable pub turned : ℕ → OwnRequest → Session → Session
turned state own s = record {
  imsi = s.imsi;
  usage = s.usage;
  control = s.control;
  controladdr = s.controladdr;
  user = s.user;
  useraddr = s.useraddr;
  created = s.created;
  own = own;
  state = state;
  point = s.point;
  ebi = s.ebi;
}

-- a live place is marked closing; one that is closing or free stays as it is
unfoldable pub closed : Session → Session
closed s = pick (s.state == 1) (turned 2 s.own s) s

unfoldable pub sent : ℕ → ℕ → Session → Session
sent t k s = turned s.state (sent_once t k s.own) s

-- a tick: given up after N sends, and freed; else counted down
unfoldable pub ticked : ℕ → Session → Session
ticked n s = pick (spent n s.own) (freed s) (turned s.state (counted_down s.own) s)

-- a closing place whose request is to be sent now
unfoldable pub is_due : Session → Bool
is_due s = is_closing s && s.own.timer == 0
