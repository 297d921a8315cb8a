-- One answer: what a function's promise, as the checker reads it off the source, allows.
use mathlib.Core.Path.{◌≡◌, sym, ap, ◌∙◌}
use mathlib.Core.List.{List}
use Prim.Native.Nat.{ℕ}
use contract.Lifetimes.{Lfts}
use denote.Triple.Clauses.{AtExit}
use borrow.Fn.Kinds.{ParamKind, ResultKind, Out, Dens, res_t, ended_of}
use Rattle.basics.specs.Answer.{Answers}

-- two calls with the same arguments, both as the promise allows: what is seen of their results and of the lent memory is
-- the same
abbrev pub OneSeen : (n : ℕ) (ps : List (ParamKind n)) (r : ResultKind n) → Out n ps r → (Seen : Lfts n → Type 0)
    → ((κs : Lfts n) → (res_t r κs).Denot → AtExit (ended_of n ps r) κs → Seen κs) → Type 0
OneSeen n ps r promise Seen seen =
    (κs : Lfts n) (args : Dens κs ps) (x y : (res_t r κs).Denot) (s t : AtExit (ended_of n ps r) κs)
    → promise κs args x s → promise κs args y t → seen κs x s ≡ seen κs y t

-- the result itself
abbrev pub OneAnswer : (n : ℕ) (ps : List (ParamKind n)) (r : ResultKind n) → Out n ps r → Type 0
OneAnswer n ps r promise = OneSeen n ps r promise (λ κs. (res_t r κs).Denot) (λ κs x s. x)

-- what a result that is a part of something lent holds
abbrev pub OnePart : (n : ℕ) (ps : List (ParamKind n)) (r : ResultKind n) → Out n ps r
    → ((κs : Lfts n) → (res_t r κs).Denot → List ℕ) → Type 0
OnePart n ps r promise held = OneSeen n ps r promise (λ κs. List ℕ) (λ κs x s. held κs x)

-- what lent memory holds afterwards, `held` saying which parameter is meant
abbrev pub OneContent : (n : ℕ) (ps : List (ParamKind n)) (r : ResultKind n) → Out n ps r
    → ((κs : Lfts n) → AtExit (ended_of n ps r) κs → List ℕ) → Type 0
OneContent n ps r promise held = OneSeen n ps r promise (λ κs. List ℕ) (λ κs x s. held κs s)

-- an answer is as promised where it is the case that the numbers call for, and that case tells those numbers
pub answers : {A B : Type 0} {told : A → B} {case_of : B → A} {right : B} {answer : A}
    → told (case_of right) ≡ right → answer ≡ case_of right → Answers told case_of right answer
answers {told = told} whole decided = record { numbers = ap told decided ∙ whole; decided = decided }

pub one_value : {A : Type 0} {x y right : A} → x ≡ right → y ≡ right → x ≡ y
one_value p q = p ∙ sym q

pub one_case : {A B : Type 0} {told : A → B} {case_of : B → A} {right : B} {x y : A}
    → Answers told case_of right x → Answers told case_of right y → x ≡ y
one_case p q = p.decided ∙ sym q.decided
