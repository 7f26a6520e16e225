use Rattle.std.proofs.Common.{◌≡◌, suc, ◌-◌, ◌<◌, ◌^◌}
use Rattle.wasm_forms.specs.Reading.{◌>>=◌}
use Rattle.wasm_forms.specs.Number.{leb_at, sleb_at, above, signed_above}
use Rattle.wasm_forms.proofs.number.take_groups.Given as goal

abbrev pub invariant-groups : goal.invariant-groups
invariant-groups l = record {
  unsigned : leb_at (suc l.most) l.bytes ≡ (leb_at (suc (l.most - l._taken)) l.rest >>= above l.value l.scale);
  signed : sleb_at (suc l.most) l.bytes ≡ (sleb_at (suc (l.most - l._taken)) l.rest >>= signed_above l.value l.scale);
  small : l.value < l.scale;
  power : l.scale ≡ 128 ^ l._taken;
}
