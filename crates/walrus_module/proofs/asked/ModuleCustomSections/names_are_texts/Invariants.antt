use Rattle.std.specs.Prelude.{All}
use Rattle.std.specs.Str.{IsUtf8}
use Rattle.walrus_module.specs.Customs.{sections_left}
use Rattle.walrus_module.specs.Meaning.{Meaning}
use Rattle.walrus_module.specs.View.{meant}
use Rattle.walrus_module.proofs.Asking.{mean}
use Rattle.walrus_module.proofs.asked.ModuleCustomSections.names_are_texts.Given as goal

abbrev pub invariant-loop-entry : goal.invariant-loop-entry
invariant-loop-entry g l = record {
  rest : All (λ (s : Meaning). IsUtf8 s.name) (mean (λ i. (g.dyn-1.0.entry i).1) (sections_left l.rest)) → All (λ (s : Meaning). IsUtf8 s.name) (meant (λ i. (g.dyn-1.0.entry i).1) l.fn.self);
}
