-- Examples with which the impossible is shown impossible: a plan of one access point with one place, two Creates for it that differ in their IMSI,
-- and Echo Requests.
-- Assumes nothing.
use Rattle.std.specs.Prelude.{ℕ, List, [], ◌∷◌, replicate, None}
use Rattle.unit_plan.specs.declared.Plan.{Plan}
use Rattle.unit_plan.specs.Limits.{no_point}
use Rattle.wire_requests.specs.declared.Create as C

-- one access point, "data", with one place guaranteed and no more than one
unfoldable pub one_party : Plan
one_party = record {
  control = 0x0A000001;
  user = 0x0A000002;
  pool = 0x64400000;
  recovery = 7;
  resend = 3;
  sends = 2;
  interval = 60;
  count = 1;
  points = record { name = 0x04 ∷ 0x64 ∷ 0x61 ∷ 0x74 ∷ 0x61 ∷ replicate 58 0; size = 5; guarantee = 1; ceiling = 1 } ∷ replicate 3 no_point;
}

-- a Create, sequence number 3, with every field that is asked for and no Recovery; the octet is the last but one of its IMSI
unfoldable pub create : ℕ → List ℕ
create x =
    0x48 ∷ 0x20 ∷ 0x00 ∷ 0x68 ∷ 0 ∷ 0 ∷ 0 ∷ 0 ∷ 0 ∷ 0 ∷ 3 ∷ 0
    ∷ 0x01 ∷ 0 ∷ 8 ∷ 0 ∷ 0x44 ∷ 0x10 ∷ 0x10 ∷ 0x32 ∷ 0x54 ∷ 0x76 ∷ x ∷ 0xF0
    ∷ 0x52 ∷ 0 ∷ 1 ∷ 0 ∷ 6
    ∷ 0x57 ∷ 0 ∷ 9 ∷ 0 ∷ 0x86 ∷ 0 ∷ 0 ∷ 0x11 ∷ 0x11 ∷ 0x0A ∷ 1 ∷ 0 ∷ 8
    ∷ 0x47 ∷ 0 ∷ 5 ∷ 0 ∷ 0x04 ∷ 0x64 ∷ 0x61 ∷ 0x74 ∷ 0x61
    ∷ 0x4F ∷ 0 ∷ 5 ∷ 0 ∷ 1 ∷ 0 ∷ 0 ∷ 0 ∷ 0
    ∷ 0x5D ∷ 0 ∷ 0x2C ∷ 0
    ∷ 0x49 ∷ 0 ∷ 1 ∷ 0 ∷ 5
    ∷ 0x57 ∷ 0 ∷ 9 ∷ 2 ∷ 0x84 ∷ 0 ∷ 0 ∷ 0x22 ∷ 0x22 ∷ 0x0A ∷ 1 ∷ 0 ∷ 9
    ∷ 0x50 ∷ 0 ∷ 0x16 ∷ 0 ∷ 0x61 ∷ 9 ∷ replicate 20 0

-- what it holds, for an IMSI
unfoldable pub create_of_imsi : ℕ → C.Create
create_of_imsi imsi = record {
  imsi = imsi;
  ebi = 5;
  control = 0x1111;
  controladdr = 0x0A010008;
  user = 0x2222;
  useraddr = 0x0A010009;
  point = 0;
  recovery = None;
}

abbrev pub first : List ℕ
first = create 0x98

abbrev pub first_imsi : ℕ
first_imsi = 440101234567890

abbrev pub second : List ℕ
second = create 0x99

abbrev pub second_imsi : ℕ
second_imsi = 440101234567990

-- an Echo Request without Recovery; the octet is the last of its sequence number
unfoldable pub echo : ℕ → List ℕ
echo n = 0x40 ∷ 1 ∷ 0 ∷ 4 ∷ 0 ∷ 0 ∷ n ∷ 0 ∷ []
