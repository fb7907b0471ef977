use Rattle.std.proofs.Common.{◌≡◌, ◌∙◌, rules, length, take, drop, ◌-◌, List, ℕ, refl, ap, arith, length-take, length-drop}
use Rattle.wire_fields.specs.Walk.{fields_cut}
use Rattle.wire_fields.proofs.Ahead.{rest_is, behind_length, ahead_past, ahead_next}
use Rattle.wire_fields.proofs.FieldsIterator.next.Goals as goal

-- the octets that are looked at
abbrev left : List ℕ → ℕ → List ℕ
left s a = take (length s - a) (drop a s)

pub returns-in_default-clause-steps : goal.returns-in_default-clause-steps
returns-in_default-clause-steps c =
    let s = c.args.self.now.s.now in
    let a = c.args.self.now.at in
    let w = c.args.self.now.within in
    let l : length (left s a) ≡ length s - a = simp (length-take, length-drop) (omega arith) in
    let e = fields_cut s a (omega (arith, c.in_default.len_below)) in
    (e, e)

pub returns-then-behind-size-clause-steps : goal.returns-then-behind-size-clause-steps
returns-then-behind-size-clause-steps c =
    let s = c.args.self.now.s.now in
    let a = c.args.self.now.at in
    let r = left s a in
    let q = behind_length r in
    let e = ahead_past s r a _ (rest_is s r a refl) (c.from-size.ensures ∙ c.be16.ensures) c.in-len4-up.len_at_least (let t = c.if-behind-size.true in omega arith) in
    (e, e)

pub returns-clause-steps : goal.returns-clause-steps
returns-clause-steps c =
    let s = c.args.self.now.s.now in
    let a = c.args.self.now.at in
    let r = left s a in
    let q = behind_length r in
    ahead_next s r a _ (rest_is s r a refl) (c.from-size.ensures ∙ c.be16.ensures) c.in-len4-up.len_at_least (let t = c.if-behind-size.false in omega arith)

pub returns-clause-goes : goal.returns-clause-goes
returns-clause-goes c = let e = returns-clause-steps c in let n = ap length e in search rules
