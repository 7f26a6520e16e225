use Rattle.std.proofs.Common.{drop, inl, refl, sym, ◌∙◌, arith}
use Rattle.std.proofs.lemmas.List.{length-drop}
use Rattle.wasm_text.specs.Marks.{form_of, kind_of, place_of}
use Rattle.wasm_text.proofs.Marked.{argument_within, marked_anew}
use Rattle.wasm_text.proofs.Steps.{rest_within}
use Rattle.wasm_text.proofs.append.put_anew.Goals as goal

pub returns-in_default-clause-steps : goal.returns-in_default-clause-steps
returns-in_default-clause-steps g c =
    inl (refl, record { arg = c.in_ok-arg.arg; rest = c.in_ok-arg.rest.now; here = c.in_ok-arg.ensures; lacks = sym c.rename_arg.ensures.is ∙ c.in_default.is })

pub copy-requires-clause-within : goal.copy-requires-clause-within
copy-requires-clause-within g c = argument_within c.args.bytes.now c.args.mark c.requires.stands

pub write_marked-requires : goal.write_marked-requires
write_marked-requires g c =
    marked_anew (g.N.Numbers.number c.args.numbers.now) c.args.bytes.now c.args.mark c.in_ok-arg.arg c.in-Some.new c.in_ok-arg.rest.now c.in_ok-arg.ensures (sym c.rename_arg.ensures.is ∙ c.in-Some.is)

pub overflow_sub-result : goal.overflow_sub-result
overflow_sub-result g c =
    let r = rest_within (form_of (kind_of c.args.mark)) (drop (place_of c.args.mark) c.args.bytes.now) c.in_ok-arg.arg c.in_ok-arg.rest.now c.in_ok-arg.ensures in
    omega (arith, r, length-drop (place_of c.args.mark) c.args.bytes.now)
