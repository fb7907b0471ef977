use Rattle.std.proofs.Common.{◌≡◌, length, take, replicate, sym, ◌∙◌, arith, rules}
use Rattle.std.proofs.lemmas.List.{ext_get_or}
use Rattle.base_octets.specs.Places.{map_first, map_all, map_same, first_part}
use Rattle.unit_store.specs.Row.{blank_row, blanked}
use Rattle.unit_store.proofs.clear.Goals as goal

pub returns : goal.returns
unfolding blanked
returns c = let t = take c.min-m.result c.args.rows.now in
    let k : replicate (length t) blank_row ≡ map_first blanked (length t) t
    = sym (map_same blank_row t) ∙ sym (map_all blanked (length t) t (omega arith)) in
    let b : length c.blank_row.result ≡ 139 = search rules in
    rw (c.fill.ensures.after (λ y h. ext_get_or 0 y c.blank_row.result (h.long ∙ sym b) (λ i z. h.at i 0 0 (rw h.long at z))), c.blank_row.ensures, k) (first_part blanked c.args.n c.min-m.result (length t) c.args.rows.now c.min-m.ensures (omega arith))
