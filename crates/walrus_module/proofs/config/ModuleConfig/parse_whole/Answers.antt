use Rattle.std.proofs.Common.{ap, sym, ℕ, ◌∙◌, ◌≡◌}
use Rattle.std.specs.Global.{Vec}
use Rattle.std.proofs.lemmas.Result.{err_from_is_err_and}
use Rattle.walrus_module.specs.Customs.{sections}
use Rattle.walrus_module.specs.Flags.{flags}
use Rattle.walrus_module.specs.Located.{Gives}
use Rattle.walrus_module.proofs.Handed.{holds_parsed}
use Rattle.walrus_module.proofs.config.ModuleConfig.parse_whole.Goals as goal

pub returns-in_err-found : goal.returns-in_err-found
returns-in_err-found g c =
    let p = err_from_is_err_and c.from_residual.result c.from_residual.ensures.1 in
    let same : c.as_slice.result.now ≡ c.args.bytes.items = c.as_slice.ensures.value ∙ ap (λ (v : Vec ℕ). v.items) (c.as_ref.ensures ∙ c.in-Ok.ensures.ok) in
    rw (p.1, p.2, sym same) c.in_err-found.ensures.refused

pub returns : goal.returns
returns g c =
    let found = c.in_ok-found in
    let same : c.as_slice.result.now ≡ c.args.bytes.items = c.as_slice.ensures.value ∙ ap (λ (v : Vec ℕ). v.items) (c.as_ref.ensures ∙ c.in-Ok.ensures.ok) in
    rw (sym same)
    (holds_parsed _ (flags c.args.self.now) (Gives c.args.self.now) c.as_slice.result.now found.found c.holding.result c.holding.ensures.holds (ap sections c.holding.ensures.own ∙ c.in_ok-kept.ensures.kept) c.holding.ensures.configured
    found.ensures.found found.ensures.taken found.ensures.own_ids found.ensures.located found.ensures.kept)
