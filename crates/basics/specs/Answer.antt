-- What an entry promises whose answer is an enum: the paper's numbers for that answer, which `told` sets out case by
-- case, and the case that those numbers call for.
use Rattle.std.specs.Prelude.{◌≡◌}

pub record Answers {A B : Type 0} (told : A → B) (case_of : B → A) (right : B) (answer : A) : Type 0 where
  pub numbers : told answer ≡ right
  pub decided : answer ≡ case_of right
