-- The way forward is over as many steps as the verdict says, and so is the way back.
use Rattle.std.proofs.Common.{Ok, ap, not, ◌/◌, length}
use Rattle.explain.specs.Verdict.{told}
use Rattle.explain.proofs.Keeping.{rows_in_long}
use Rattle.explain.proofs.Filled.{keeps, shown_long, fills}
use Rattle.explain.proofs.filling.fill.Goals as goal

pub keep-heard-requires : goal.keep-heard-requires
keep-heard-requires c =
    let a = c.args in
    let j = told (Ok c.scan-verdict.result) in
    let steps = length a.capture.now / 4 in
    let shown = c.filled_steps-shown.ensures in
    rw (shown_long j steps shown a.conditions.now c.requires.3, shown_long j steps shown a.commands.now c.requires.4)
    (keeps a.s a.capture.now c.requires.2 c.scan-verdict.ensures shown)

pub returns-clause-fills : goal.returns-clause-fills
returns-clause-fills c =
    let a = c.args in
    let j = told (Ok c.scan-verdict.result) in
    let steps = length a.capture.now / 4 in
    let shown = c.filled_steps-shown.ensures in
    let kept = keeps a.s a.capture.now c.requires.2 c.scan-verdict.ensures shown in
    let long = rows_in_long a.capture.now c.filled_steps-shown.result kept.inside in
    let wrote = rw (shown_long j steps shown a.conditions.now c.requires.3) at c.keep-heard.ensures in
    rw (← shown) (fills long (ap not wrote.value) wrote.first_table c.settle.ensures wrote.second_table)
