-- Refused for the settings, refused for the size, or the scan's verdict, which is right.
use Rattle.std.proofs.Common.{false, sym, length}
use Rattle.std.proofs.lemmas.Result.{err_from_is_err_and}
use Rattle.basics.specs.Capture.{size_faults}
use Rattle.basics.proofs.Fitting.{size_fits}
use Rattle.basics.proofs.Refusals.{number_some}
use Rattle.controller.proofs.Making.{fresh_facts, refused_facts}
use Rattle.explain.proofs.Judged.{fresh_fit, settings_right, rest_right, scanned_right}
use Rattle.explain.proofs.judge.Goals as goal

pub returns-in_err-s : goal.returns-in_err-s
returns-in_err-s c =
    let a = c.args.settings in
    let bytes = c.args.capture.now in
    let p = err_from_is_err_and c.from_residual.result c.from_residual.ensures.1 in
    let facts =
    refused_facts a.n false a.mask a.w c.in_err-s.field-0.0 (sym c.in_err-s.ensures.decided) in
    rw (p.1, p.2) (settings_right a.n a.hold a.mask a.w bytes (size_faults (length bytes)) _ facts.0 facts.1)

pub returns-in_err-size_refusal : goal.returns-in_err-size_refusal
returns-in_err-size_refusal c =
    let a = c.args.settings in
    let bytes = c.args.capture.now in
    let e = c.in_err-size_refusal.field-0.0 in
    let p =
    err_from_is_err_and c.from_residual-in_err-size_refusal.result c.from_residual-in_err-size_refusal.ensures.1 in
    let facts = fresh_facts a.n false a.mask a.w c.in_ok-s.s (sym c.in_ok-s.ensures.decided) in
    rw (p.1, p.2)
    (rest_right a.n a.hold a.mask a.w bytes (size_faults (length bytes)) facts.1 facts.2 _ c.in_err-size_refusal.ensures
    (number_some e))

pub scan-requires : goal.scan-requires
scan-requires c =
    let a = c.args.settings in
    let size = size_fits (length c.args.capture.now) (sym c.in_ok-size_refusal.ensures) in
    let facts = fresh_facts a.n false a.mask a.w c.in_ok-s.s (sym c.in_ok-s.ensures.decided) in
    (size.0, size.1, rw facts.0 (fresh_fit a.n a.mask a.w facts.1))

pub returns : goal.returns
returns c =
    let a = c.args.settings in
    let bytes = c.args.capture.now in
    let facts = fresh_facts a.n false a.mask a.w c.in_ok-s.s (sym c.in_ok-s.ensures.decided) in
    rw (c.scan.ensures, facts.0)
    (scanned_right a.n a.hold a.mask a.w bytes (size_faults (length bytes)) facts.1 facts.2
    (sym c.in_ok-size_refusal.ensures))
