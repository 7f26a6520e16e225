use Rattle.std.proofs.Common.{refl, ◌≡◌, length, ap₂, ◌∙◌}
use Rattle.std.specs.Prelude.{Some}
use Rattle.walrus_base.specs.Id.{place}
use Rattle.walrus_base.specs.Locals.{locals}
use Rattle.walrus_functions.specs.Signatures.{slots_of}
use Rattle.walrus_items.specs.Functions.{functions}
use Rattle.walrus_items.specs.declared.function_kind.FunctionKind.TheVariants.{Local}
use Rattle.wasm_frames.specs.Record.{body_record}
use Rattle.walrus_base.proofs.Taking.{some_same}
use Rattle.walrus_reading.specs.Taken.{context_under, tags_under}
use Rattle.walrus_reading.proofs.TakenBody.{not_taken, taken}
use Rattle.walrus_reading.proofs.functions.add_function.Goals as goal

pub returns-in-Err-clause-taken : goal.returns-in-Err-clause-taken
returns-in-Err-clause-taken g c =
    let own : place c.in-Some.ty ≡ c.args.index = some_same _ _ (c.in-Some.ensures ∙ c.requires.declared) in
    rw c.unread_at.ensures (not_taken (context_under c.args.under.now c.args.types.now) (tags_under c.args.under.now) (c.args.index, body_record c.args.body.now) (place c.in-Some.ty) own
    (slots_of c.args.types.now) (slots_of c.read_located-read.new.types) (locals c.args.all.now) (locals c.read_located-read.new.all) (functions c.args.funcs.now) (functions c.args.funcs.now) _ (c.index.ensures ∙ c.next_id.ensures) c.in-Err.e c.in-Err.ensures.read)

pub returns-in_ok-add_local-in-Ok-clause-taken : goal.returns-in_ok-add_local-in-Ok-clause-taken
returns-in_ok-add_local-in-Ok-clause-taken g c =
    let own : place c.in-Some.ty ≡ c.args.index = some_same _ _ (c.in-Some.ensures ∙ c.requires.declared) in (
      _,
      (
        c.in_ok-add_local-in-Ok.ensures.1,
        taken (context_under c.args.under.now c.args.types.now) (tags_under c.args.under.now) (c.args.index, body_record c.args.body.now) (place c.in-Some.ty) own
            (slots_of c.args.types.now) (slots_of c.read_located-read.new.types) (locals c.args.all.now) (locals c.read_located-read.new.all)
            c.in-Ok.function c.in-Ok.ensures.read (length (functions c.args.funcs.now)) _
            (ap₂ (λ i n. Some (record { id = i; kind = Local c.in-Ok.function; name = n })) c.in_ok-add_local-in-Ok.ensures.0 c.in-Ok.ensures.read.unnamed),
      ),
    )

pub returns-in_ok-add_local-in-Ok-clause-located : goal.returns-in_ok-add_local-in-Ok-clause-located
returns-in_ok-add_local-in-Ok-clause-located g c = (
  _,
  (
    c.in_ok-add_local-in-Ok.ensures.1,
    record {
      value = _;
      is = refl;
      local = c.in-Ok.function;
      kind = refl;
      places = c.in-Ok.ensures.located;
    },
  ),
)
