use Prim.Native.Nat.{ℕ, ◌≤◌}
use mathlib.Core.List.{List}
use mathlib.Core.Bool.{true}
use Rattle.base_octets.specs.Number.{taken}
use mathlib.Core.Path.{◌≡◌, refl, sym, ◌∙◌}
use native.Mathlib.Omega.{arith}
use lib.ListN.{length}
use Rattle.base_octets.specs.Places.{tail_part}
use Rattle.wire_user.specs.Header.{fixed_size, whole_size, user_octet, optional, refusal_of, size_of, header_passed, optional_plain, size_optional, size_plain}
use Rattle.wire_user.specs.User.{user_plain, user_past}
use Rattle.wire_user.specs.Part.{rest_walked}
use Rattle.wire_user.proofs.past_header.Goals as goal

-- with any of the flags set the header has 12 octets, and they are there
size : (d : List ℕ) → optional (user_octet d 0) ≡ true → whole_size ≡ size_of (user_octet d 0)
size d o = sym (size_optional (user_octet d 0) o)

whole : (d : List ℕ) → refusal_of d ≡ taken → optional (user_octet d 0) ≡ true → whole_size ≤ length d
whole d r o = let s = size d o in let p = header_passed d r in omega (arith, p.whole)

pub bounds-d-0 : goal.bounds-d-0
bounds-d-0 c = let p = header_passed c.args.d.now c.requires in omega (arith, p.fixed)

pub slice_bounds-result-count : goal.slice_bounds-result-count
slice_bounds-result-count c = let p = header_passed c.args.d.now c.requires in omega (arith, p.fixed)

pub slice_bounds-result-start : goal.slice_bounds-result-start
slice_bounds-result-start c = let p = header_passed c.args.d.now c.requires in omega (arith, p.fixed)

pub returns-then-not-optional : goal.returns-then-not-optional
returns-then-not-optional c = let d = c.args.d.now in
    let o = sym c.optional.ensures ∙ c.if-not-optional.true in
    let u = user_plain d fixed_size (sym (size_plain (user_octet d 0) o)) c.requires (optional_plain (user_octet d 0) o) in
    rw (u.0, u.1) (refl, record { memory = refl; place = omega arith; octets = tail_part d fixed_size })

pub slice_bounds-result-count-then-not-extended : goal.slice_bounds-result-count-then-not-extended
slice_bounds-result-count-then-not-extended c = let p = whole c.args.d.now c.requires (sym c.optional.ensures ∙ c.if-not-optional.false) in omega arith

pub slice_bounds-result-start-then-not-extended : goal.slice_bounds-result-start-then-not-extended
slice_bounds-result-start-then-not-extended c = let p = whole c.args.d.now c.requires (sym c.optional.ensures ∙ c.if-not-optional.false) in omega arith

pub returns-then-not-extended : goal.returns-then-not-extended
returns-then-not-extended c = let d = c.args.d.now in
    let e = sym c.extended.ensures ∙ c.if-not-extended.true in
    let u = user_plain d whole_size (size c.args.d.now (sym c.optional.ensures ∙ c.if-not-optional.false)) c.requires e in
    rw (u.0, u.1) (refl, record { memory = refl; place = omega arith; octets = tail_part d whole_size })

pub bounds-d-11 : goal.bounds-d-11
bounds-d-11 c = let p = whole c.args.d.now c.requires (sym c.optional.ensures ∙ c.if-not-optional.false) in omega arith

pub slice_bounds-past_extensions-count : goal.slice_bounds-past_extensions-count
slice_bounds-past_extensions-count c = let p = whole c.args.d.now c.requires (sym c.optional.ensures ∙ c.if-not-optional.false) in omega arith

pub slice_bounds-past_extensions-start : goal.slice_bounds-past_extensions-start
slice_bounds-past_extensions-start c = let p = whole c.args.d.now c.requires (sym c.optional.ensures ∙ c.if-not-optional.false) in omega arith

pub returns : goal.returns
returns c = let a = c.args.d in
    let e = sym c.extended.ensures ∙ c.if-not-extended.false in
    rw (user_past a.now whole_size (size a.now (sym c.optional.ensures ∙ c.if-not-optional.false)) c.requires e)
    (rest_walked _ _ a whole_size _ (record { memory = refl; place = omega arith; octets = tail_part a.now whole_size }) c.past_extensions.ensures)
