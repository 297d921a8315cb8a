-- The number of the held K1 says what the rows say of it.
use borrow.Author.Tests.{ne_eqb}
use Rattle.pair.specs.Request.{requests}
use Rattle.pair.proofs.Looking.{usable_looked}
use Rattle.controller.specs.Settings.{none_held}
use Rattle.controller.proofs.refusal.held_fits.Goals as goal

pub returns-else-s-eq-NONE_HELD : goal.returns-else-s-eq-NONE_HELD
returns-else-s-eq-NONE_HELD c =
    let numbered = c.args.numbered in
    let s = numbered.controller in
    rw (
      c.usable_in.ensures,
      c.is_command.ensures,
      c.asked.ensures,
      numbered.held_is,
      usable_looked requests s.held s.n c.requires,
      ne_eqb s.held none_held c.if-s-eq-NONE_HELD.false,
    )
