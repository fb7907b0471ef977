-- The numbers that come back, by name (document 01's table). A cause is a number too: those are named in crate readers.
use Rattle.std.specs.Prelude.{ℕ}

abbrev pub taken : ℕ
taken = 0

-- the reply buffer is short
abbrev pub reply_short : ℕ
reply_short = 1

-- the table breaks its rules
abbrev pub rules_broken : ℕ
rules_broken = 2

-- a datagram under 8 octets
abbrev pub under_eight : ℕ
under_eight = 3

-- P is set
abbrev pub flag_p_set : ℕ
flag_p_set = 4

-- a control version that is not 2
abbrev pub other_version : ℕ
other_version = 5

-- the length is not the size less 4 (user: less 8), or the header is cut
abbrev pub length_unfit : ℕ
length_unfit = 6

abbrev pub type_not_taken : ℕ
type_not_taken = 7

-- T, or Create's TEID
abbrev pub teid_unfit : ℕ
teid_unfit = 8

-- a reply that is not awaited, or unreadable
abbrev pub not_awaited : ℕ
not_awaited = 9

-- a place past the last, or free when closed
abbrev pub no_place : ℕ
no_place = 10

-- admitted, and no place is free
abbrev pub no_free_place : ℕ
no_free_place = 11

-- user version or PT wrong
abbrev pub not_user : ℕ
not_user = 12

-- the optional part is cut, or an extension's length is 0 or cut
abbrev pub part_cut : ℕ
part_cut = 13

-- an extension that must be understood
abbrev pub must_understand : ℕ
must_understand = 14

-- a user TEID that is not live
abbrev pub user_not_live : ℕ
user_not_live = 15

-- the plan breaks a limit
abbrev pub plan_breaks : ℕ
plan_breaks = 16

abbrev pub nothing_due : ℕ
nothing_due = 17

-- a packet that is not one whole IPv4 packet
abbrev pub packet_unfit : ℕ
packet_unfit = 18

-- no session has the destination address
abbrev pub no_session : ℕ
no_session = 19

-- the output buffer is under the packet plus 8
abbrev pub output_short : ℕ
output_short = 20
