use Rattle.std.proofs.Common.{◌++◌, codes}
use Rattle.std.proofs.KnownBytes.{Appends-trans}
use Rattle.walrus_tools.proofs.DeviceLemmas.{on_err, on_ok_map, on_err_map, front_of_first, front_of_second}
use Rattle.mulkavesh.specs.Visible.{shown}
use Rattle.mulkavesh.proofs.message.write_line.Goals as goal

pub returns-in_err-write_all-clause-begun : goal.returns-in_err-write_all-clause-begun
returns-in_err-write_all-clause-begun g c =
    on_err c.from_residual.result (front_of_first _ _ (codes "mulkavesh: ") (shown c.args.of.now ++ (codes ": " ++ (c.args.text.now ++ codes "\n"))) c.in_err-write_all.ensures.begun)

pub returns-in_err-write_shown-clause-begun : goal.returns-in_err-write_shown-clause-begun
returns-in_err-write_shown-clause-begun g c =
    rw (← c.as_bytes.ensures.value) (on_err c.from_residual-in_err-write_shown.result
    (front_of_second _ _ _ (codes "mulkavesh: ") (shown c.as_bytes.result.now ++ (codes ": " ++ (c.args.text.now ++ codes "\n"))) c.in_ok-write_all.ensures.ok
    (front_of_first _ _ (shown c.as_bytes.result.now) (codes ": " ++ (c.args.text.now ++ codes "\n")) c.in_err-write_shown.ensures.begun)))

pub returns-in_err-write_all-2-clause-begun : goal.returns-in_err-write_all-2-clause-begun
returns-in_err-write_all-2-clause-begun g c =
    rw (← c.as_bytes.ensures.value) (on_err c.from_residual-in_err-write_all-2.result
    (front_of_second _ _ _ (codes "mulkavesh: ") (shown c.as_bytes.result.now ++ (codes ": " ++ (c.args.text.now ++ codes "\n"))) c.in_ok-write_all.ensures.ok
    (front_of_second _ _ _ (shown c.as_bytes.result.now) (codes ": " ++ (c.args.text.now ++ codes "\n")) c.in_ok-write_shown.ensures.ok
    (front_of_first _ _ (codes ": ") (c.args.text.now ++ codes "\n") c.in_err-write_all-2.ensures.begun))))

pub returns-in_err-write_all-3-clause-begun : goal.returns-in_err-write_all-3-clause-begun
returns-in_err-write_all-3-clause-begun g c =
    rw (← c.as_bytes.ensures.value) (on_err c.from_residual-in_err-write_all-3.result
    (front_of_second _ _ _ (codes "mulkavesh: ") (shown c.as_bytes.result.now ++ (codes ": " ++ (c.args.text.now ++ codes "\n"))) c.in_ok-write_all.ensures.ok
    (front_of_second _ _ _ (shown c.as_bytes.result.now) (codes ": " ++ (c.args.text.now ++ codes "\n")) c.in_ok-write_shown.ensures.ok
    (front_of_second _ _ _ (codes ": ") (c.args.text.now ++ codes "\n") c.in_ok-write_all-2.ensures.ok
    (front_of_first _ _ c.args.text.now (codes "\n") c.in_err-write_all-3.ensures.begun)))))

pub returns-clause-ok : goal.returns-clause-ok
returns-clause-ok g c =
    rw (← c.as_bytes.ensures.value) (on_ok_map c.write_all-4.result
    (λ last. Appends-trans _ _ _ (codes "mulkavesh: ") (shown c.as_bytes.result.now ++ (codes ": " ++ (c.args.text.now ++ codes "\n"))) c.in_ok-write_all.ensures.ok
    (Appends-trans _ _ _ (shown c.as_bytes.result.now) (codes ": " ++ (c.args.text.now ++ codes "\n")) c.in_ok-write_shown.ensures.ok
    (Appends-trans _ _ _ (codes ": ") (c.args.text.now ++ codes "\n") c.in_ok-write_all-2.ensures.ok
    (Appends-trans _ _ _ c.args.text.now (codes "\n") c.in_ok-write_all-3.ensures.ok last))))
    c.write_all-4.ensures.ok)

pub returns-clause-begun : goal.returns-clause-begun
returns-clause-begun g c =
    rw (← c.as_bytes.ensures.value) (on_err_map c.write_all-4.result
    (λ last. front_of_second _ _ _ (codes "mulkavesh: ") (shown c.as_bytes.result.now ++ (codes ": " ++ (c.args.text.now ++ codes "\n"))) c.in_ok-write_all.ensures.ok
    (front_of_second _ _ _ (shown c.as_bytes.result.now) (codes ": " ++ (c.args.text.now ++ codes "\n")) c.in_ok-write_shown.ensures.ok
    (front_of_second _ _ _ (codes ": ") (c.args.text.now ++ codes "\n") c.in_ok-write_all-2.ensures.ok
    (front_of_second _ _ _ c.args.text.now (codes "\n") c.in_ok-write_all-3.ensures.ok last))))
    c.write_all-4.ensures.begun)
