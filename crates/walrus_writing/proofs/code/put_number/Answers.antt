use Rattle.std.proofs.Common.{◌++◌, ◌∙◌, ℕ, List, ap, take, drop}
use Rattle.wasm_forms.specs.Spelling.{number_bytes}
use Rattle.walrus_writing.proofs.Replaced.{told_all}
use Rattle.walrus_writing.proofs.code.put_number.Goals as goal

pub returns : goal.returns
returns c =
    let put = c.in_ok-_replaced.ensures.items in
    put.4
    ∙ ap (λ (l : List ℕ). take c.args.from c.args.to.now.items ++ (l ++ drop c.args.until c.args.to.now.items))
    (told_all put.1 c.write_u32.new.to.items put.0 put.2.0 (put.2.1 ∙ c.write_u32.new.to.ok.0) put.3 ∙ c.in_ok-write_u32.ensures.written ∙ ap (λ (l : List ℕ). l ++ number_bytes c.args.number) c.new-spelling.ensures.items)
