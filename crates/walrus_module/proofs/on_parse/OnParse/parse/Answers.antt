use Rattle.std.proofs.Common.{length, sym, ap, ◌∙◌, inl, inr}
use Rattle.std.specs.List.{range_with_len}
use Rattle.std.proofs.lemmas.List.FromFn.{length-range_with_len}
use Rattle.std.proofs.lemmas.Result.{err_from_is_err_and}
use Rattle.walrus_module.specs.Customs.{sections}
use Rattle.walrus_module.specs.Flags.{flags}
use Rattle.walrus_module.specs.Located.{Gives}
use Rattle.walrus_module.specs.OnParse.{index_count}
use Rattle.walrus_module.specs.View.{contents_of}
use Rattle.walrus_module.proofs.Handed.{handed}
use Rattle.walrus_module.proofs.on_parse.OnParse.parse.Goals as goal

pub on_parse-requires : goal.on_parse-requires
on_parse-requires g c = record {
  in_place = λ space.
      let is = c.in_ok-ids.ensures.numbered space in
      is ∙ ap (range_with_len 0) (sym (ap length is ∙ length-range_with_len 0 (index_count c.in_ok-found.found.type_count (contents_of c.holding-module.result) space)));
}

pub returns-in_err-found-clause-ran : goal.returns-in_err-found-clause-ran
returns-in_err-found-clause-ran g c =
    let p = err_from_is_err_and c.from_residual.result c.from_residual.ensures.1 in
    rw (p.1, p.2) (inl c.in_err-found.ensures.refused)

pub returns-in_err-on_parse-clause-ran : goal.returns-in_err-on_parse-clause-ran
returns-in_err-on_parse-clause-ran g c =
    let config = c.args.self.now.config.now in
    let found = c.in_ok-found in
    let read = c.holding-module.result in
    let p = err_from_is_err_and c.from_residual-in_err-on_parse.result c.from_residual-in_err-on_parse.ensures.1 in
    rw (p.1, p.2) (inr (
      _,
      record {
        module_read = read;
        ids = c.in_ok-ids.ids;
        handed = handed _ (flags config) (Gives config) c.args.bytes.now found.found read c.holding-module.ensures.holds (ap sections c.holding-module.ensures.own ∙ c.in_ok-customs.ensures.kept) c.holding-module.ensures.configured
            found.ensures.found found.ensures.taken found.ensures.own_ids found.ensures.located found.ensures.kept c.in_ok-ids.ids found.ensures.counted c.in_ok-ids.ensures.numbered;
        did = c.in_err-on_parse.ensures;
      },
    ))

pub returns-clause-ran : goal.returns-clause-ran
returns-clause-ran g c =
    let config = c.args.self.now.config.now in
    let found = c.in_ok-found in
    let read = c.holding-module.result in
    record {
      module_read = read;
      ids = c.in_ok-ids.ids;
      handed = handed _ (flags config) (Gives config) c.args.bytes.now found.found read c.holding-module.ensures.holds (ap sections c.holding-module.ensures.own ∙ c.in_ok-customs.ensures.kept) c.holding-module.ensures.configured
          found.ensures.found found.ensures.taken found.ensures.own_ids found.ensures.located found.ensures.kept c.in_ok-ids.ids found.ensures.counted c.in_ok-ids.ensures.numbered;
      did = c.in_ok-on_parse.ensures;
    }
