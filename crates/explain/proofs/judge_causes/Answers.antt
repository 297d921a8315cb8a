-- Refused for the settings, refused for a size, or the scan's verdict with the tables by it.
use Rattle.std.proofs.Common.{false, refl, sym, ◌/◌, length}
use Rattle.std.proofs.lemmas.Result.{err_from_is_err_and}
use Rattle.basics.specs.Capture.{size_faults}
use Rattle.basics.proofs.First.{none_both}
use Rattle.basics.proofs.Fitting.{size_fits}
use Rattle.basics.proofs.Refusals.{number_some}
use Rattle.controller.proofs.Making.{fresh_facts, refused_facts}
use Rattle.explain.specs.Causes.{room_faults}
use Rattle.explain.proofs.Judged.{fresh_fit, settings_right, rest_right}
use Rattle.explain.proofs.Tables.{rest, room_fits, refused_causes, scanned_causes}
use Rattle.explain.proofs.judge_causes.Goals as goal

pub returns-in_err-s : goal.returns-in_err-s
returns-in_err-s c =
    let a = c.args.settings in
    let bytes = c.args.capture.now in
    let behind = rest a.n a.hold a.mask a.w bytes c.args.conditions.now c.args.commands.now in
    let p = err_from_is_err_and c.from_residual.result c.from_residual.ensures.1 in
    let facts =
    refused_facts a.n false a.mask a.w c.in_err-s.field-0.0 (sym c.in_err-s.ensures.decided) in
    rw (p.1, p.2)
    (refused_causes a.n a.hold a.mask a.w bytes c.args.conditions.now c.args.commands.now _
    (settings_right a.n a.hold a.mask a.w bytes behind _ facts.0 facts.1))

pub returns-in_err-causes_refusal : goal.returns-in_err-causes_refusal
returns-in_err-causes_refusal c =
    let a = c.args.settings in
    let bytes = c.args.capture.now in
    let behind = rest a.n a.hold a.mask a.w bytes c.args.conditions.now c.args.commands.now in
    let e = c.in_err-causes_refusal.field-0.0 in
    let p =
    err_from_is_err_and c.from_residual-in_err-causes_refusal.result
    c.from_residual-in_err-causes_refusal.ensures.1 in
    let facts = fresh_facts a.n false a.mask a.w c.in_ok-s.s (sym c.in_ok-s.ensures.decided) in
    rw (p.1, p.2)
    (refused_causes a.n a.hold a.mask a.w bytes c.args.conditions.now c.args.commands.now _
    (rest_right a.n a.hold a.mask a.w bytes behind facts.1 facts.2 _ c.in_err-causes_refusal.ensures (number_some e)))

pub fill-requires : goal.fill-requires
fill-requires c =
    let a = c.args.settings in
    let bytes = c.args.capture.now in
    let room = length c.args.conditions.now in
    let room2 = length c.args.commands.now in
    let steps = length bytes / 4 in
    let parts =
    none_both (size_faults (length bytes)) (room_faults steps room room2) refl (sym c.in_ok-causes_refusal.ensures) in
    let size = size_fits (length bytes) parts.0 in
    let fits = room_fits steps room room2 parts.1 in
    let facts = fresh_facts a.n false a.mask a.w c.in_ok-s.s (sym c.in_ok-s.ensures.decided) in
    (size.0, size.1, rw facts.0 (fresh_fit a.n a.mask a.w facts.1), fits.0, fits.1)

pub returns : goal.returns
returns c =
    let a = c.args.settings in
    let facts = fresh_facts a.n false a.mask a.w c.in_ok-s.s (sym c.in_ok-s.ensures.decided) in
    let wrote = c.fill.ensures in
    scanned_causes a.n a.hold a.mask a.w c.args.capture.now c.args.conditions.now c.args.commands.now facts.1 facts.2 _ _
    (sym c.in_ok-causes_refusal.ensures) _ (rw facts.0 at wrote.result_value) (rw facts.0 at wrote.fills)
