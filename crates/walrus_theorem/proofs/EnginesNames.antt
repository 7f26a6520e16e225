-- What is written in an item is all of it that new numbers for items can change.
use Rattle.std.proofs.Common.{◌≡◌, ℕ, map, refl, ap}
use Rattle.std.specs.Prelude.{Option, Some}
use Rattle.walrus_base.specs.Types.{sub_names}
use Rattle.walrus_base.specs.Operators.{Types, type_item}
use Rattle.walrus_theorem.specs.Engines.{NamesAreAll}
use Rattle.walrus_base.proofs.Lists.{Contains-map, Contains-append_2}
use Rattle.walrus_model.proofs.Alike.{type_one, ops_one, val_one, table_one, memory_one, tag_one, global_one, element_one, data_one}
use Rattle.walrus_model.proofs.TypesAlike.{sub_alike}

pub names_are_all : NamesAreAll
names_are_all r s e = record {
  types = λ x on. (
    type_one r s x on,
    sub_alike (r.numbers Types) (s.numbers Types) x.sub (λ u at. on (type_item u) (Contains-append_2 (type_item u) (map type_item x.group) (map type_item (sub_names x.sub)) (Contains-map type_item u (sub_names x.sub) at))),
  );
  operators = λ l ops on. ops_one r s l l ops on (λ x at. refl);
  values = λ v on. val_one r s v on;
  tables = λ t on. table_one r s t on imported;
  memories = λ t on. memory_one r s t imported;
  tags = λ t on. tag_one r s t on imported;
  globals = λ g on. global_one r s g on imported;
  elements = λ x on. element_one r s x on;
  data_segments = λ d on. data_one r s d on;
} where
  imported : {o : Option ℕ} (i : ℕ) → o ≡ Some i → r.imports i ≡ s.imports i
  imported i at = ap (λ (f : ℕ → ℕ). f i) e
