use Rattle.std.proofs.Common.{◌≡◌, Bool, false, List, ℕ, drop, length, string_bytes, sym, ap, ap₂, ◌∙◌}
use Rattle.std.specs.Prelude.{eqb, if◌then◌else◌}
use Rattle.std.specs.List.{starts_with}
use Rattle.std.proofs.lemmas.Str.Pattern.{starts_text}
use Rattle.mulkavesh.specs.Order.{begins, joined_front}
use Rattle.mulkavesh.proofs.order.Value.text.Goals as goal

pub returns-in-None : goal.returns-in-None
returns-in-None c =
    let front = joined_front c.args.self.now.joined in
    let word = string_bytes c.args.self.now.argument in
    let none : begins front word ≡ false = sym (starts_text false _ _ c.in-None.ensures.cases ∙ ap₂ (λ (n s : List ℕ). starts_with eqb s n) c.joined_front.ensures c.as_str-argument.ensures.value) in
    c.as_str-argument.ensures.value ∙ sym (ap (λ (b : Bool). if b then drop (length front) word else word) none)
