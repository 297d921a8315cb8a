-- The front door: what is proved of the door for C and Rust, each theorem in full with the line that cites its proof.
use mathlib.Core.Path.{◌≡◌, refl}
use mathlib.Core.Bool.{Bool, true}
use mathlib.Core.List.{List, [], ◌∷◌, ◌++◌}
use Prim.Native.Nat.{ℕ, ◌≤◌, ◌<◌}
use lib.ListN.{length, get_or, replicate}
use Rattle.basics.specs.Bytes.{two_bytes, four_bytes}
use Rattle.basics.specs.First.{◌when◌, first_of}
use Rattle.basics.specs.Settings.{sections_fit, options_fit, hold_of}
use Rattle.basics.proofs.One.{OneAnswer, OneContent, one_value}
use Rattle.pair.specs.Table.{Value}
use Rattle.pair.specs.Coder.{Decoding, Encoding, encoding}
use Rattle.controller.specs.Settings.{fresh, settings_faults, making}
use Rattle.controller.specs.declared.Controller.{Controller}
use Rattle.controller.specs.Step.{Stepped}
use Rattle.explain.specs.Causes.{Causes}
use Rattle.explain.specs.Verdict.{Judging, refused_by}
use Rattle.switches.specs.Extend.{extending}
use Rattle.switches.specs.LastChange.{Looked}
use Rattle.book.specs.Format.{contents_in, bytes_of, hold_in, body_of, no_entry}
use Rattle.book.specs.Reader.{reading}
use Rattle.book.specs.Writer.{counted, writing, output}
use Rattle.book.proofs.Laid.{length_listed}
use Rattle.book.proofs.Trips.{contents_back, read_places}
use Rattle.report.proofs.Tables.{printed_one}
use Rattle.chainplater.specs.Coder.{value_bytes, flag, decoded_bytes, encoded_bytes, encoding_bytes}
use Rattle.chainplater.specs.Record.{record_in, record_bytes, fresh_for, outcome_bytes, step_bytes}
use Rattle.chainplater.specs.Switches.{looked_bytes}
use Rattle.chainplater.specs.Verdict.{judging_bytes, RightFor, fixed_by}
use Rattle.chainplater.proofs.Bytes.{record_size, outcome_size, record_back, record_again, refused_step_lem, fresh_for_lem}
use Rattle.chainplater.proofs.Bytes.{above_refused, above_step}
use Rattle.chainplater.proofs.Bytes.{refused_write, flag_taken, flag_refused, same_refusal, same_bytes, judged_one}
use Rattle.chainplater.proofs.Bytes.{causes_one, same_conditions, same_commands}
use Rattle.chainplater.proofs.Captures.{capture_fresh, capture_caused, capture_listed}
use Rattle.chainplater.proofs.chainplater_fresh.Kinds as fresh-kinds
use Rattle.chainplater.proofs.chainplater_fresh.Reads as fresh-fn
use Rattle.chainplater.proofs.chainplater_fresh.Statement as fresh-statement
use Rattle.chainplater.proofs.chainplater_fresh.Met as fresh-met
use Rattle.chainplater.proofs.chainplater_k1.Kinds as k1-kinds
use Rattle.chainplater.proofs.chainplater_k1.Reads as k1-fn
use Rattle.chainplater.proofs.chainplater_k1.Statement as k1-statement
use Rattle.chainplater.proofs.chainplater_k1.Met as k1-met
use Rattle.chainplater.proofs.chainplater_decode.Kinds as decode-kinds
use Rattle.chainplater.proofs.chainplater_decode.Reads as decode-fn
use Rattle.chainplater.proofs.chainplater_decode.Statement as decode-statement
use Rattle.chainplater.proofs.chainplater_decode.Met as decode-met
use Rattle.chainplater.proofs.chainplater_encode.Kinds as encode-kinds
use Rattle.chainplater.proofs.chainplater_encode.Reads as encode-fn
use Rattle.chainplater.proofs.chainplater_encode.Statement as encode-statement
use Rattle.chainplater.proofs.chainplater_encode.Met as encode-met
use Rattle.chainplater.proofs.chainplater_step.Kinds as step-kinds
use Rattle.chainplater.proofs.chainplater_step.Reads as step-fn
use Rattle.chainplater.proofs.chainplater_step.Statement as step-statement
use Rattle.chainplater.proofs.chainplater_step.Met as step-met
use Rattle.chainplater.proofs.chainplater_judge.Kinds as judge-kinds
use Rattle.chainplater.proofs.chainplater_judge.Reads as judge-fn
use Rattle.chainplater.proofs.chainplater_judge.Statement as judge-statement
use Rattle.chainplater.proofs.chainplater_judge.Met as judge-met
use Rattle.chainplater.proofs.chainplater_causes.Kinds as causes-kinds
use Rattle.chainplater.proofs.chainplater_causes.Reads as causes-fn
use Rattle.chainplater.proofs.chainplater_causes.Statement as causes-statement
use Rattle.chainplater.proofs.chainplater_causes.Met as causes-met
use Rattle.chainplater.proofs.chainplater_switches.Kinds as switches-kinds
use Rattle.chainplater.proofs.chainplater_switches.Reads as switches-fn
use Rattle.chainplater.proofs.chainplater_switches.Statement as switches-statement
use Rattle.chainplater.proofs.chainplater_switches.Met as switches-met
use Rattle.chainplater.proofs.chainplater_last_change.Kinds as last-change-kinds
use Rattle.chainplater.proofs.chainplater_last_change.Reads as last-change-fn
use Rattle.chainplater.proofs.chainplater_last_change.Statement as last-change-statement
use Rattle.chainplater.proofs.chainplater_last_change.Met as last-change-met
use Rattle.chainplater.proofs.chainplater_read.Kinds as read-kinds
use Rattle.chainplater.proofs.chainplater_read.Reads as read-fn
use Rattle.chainplater.proofs.chainplater_read.Statement as read-statement
use Rattle.chainplater.proofs.chainplater_read.Met as read-met
use Rattle.chainplater.proofs.chainplater_write.Kinds as write-kinds
use Rattle.chainplater.proofs.chainplater_write.Reads as write-fn
use Rattle.chainplater.proofs.chainplater_write.Statement as write-statement
use Rattle.chainplater.proofs.chainplater_write.Met as write-met
use Rattle.chainplater.proofs.chainplater_table.Kinds as table_kinds
use Rattle.chainplater.proofs.chainplater_table.Reads as table-fn
use Rattle.chainplater.proofs.chainplater_table.Statement as table-statement
use Rattle.chainplater.proofs.chainplater_table.Met as table-met

-- Each function answers, and leaves in the memory that it was lent, what the definitions say, for every input. (`statement`
-- is the contract, as the checker reads it off the source; it asks nothing of the caller.)
fresh_right : {M : Type 1} → fresh-statement.statement M
fresh_right = fresh-met.met

k1_right : {M : Type 1} → k1-statement.statement M
k1_right = k1-met.met

decode_right : {M : Type 1} → decode-statement.statement M
decode_right = decode-met.met

encode_right : {M : Type 1} → encode-statement.statement M
encode_right = encode-met.met

step_right : {M : Type 1} → step-statement.statement M
step_right = step-met.met

judge_right : {M : Type 1} → judge-statement.statement M
judge_right = judge-met.met

causes_right : {M : Type 1} → causes-statement.statement M
causes_right = causes-met.met

switches_right : {M : Type 1} → switches-statement.statement M
switches_right = switches-met.met

last_change_right : {M : Type 1} → last-change-statement.statement M
last_change_right = last-change-met.met

read_right : {M : Type 1} → read-statement.statement M
read_right = read-met.met

write_right : {M : Type 1} → write-statement.statement M
write_right = write-met.met

table_right : {M : Type 1} → table-statement.statement M
table_right = table-met.met

-- Two answers that the promise of a function allows are equal, and so are two contents of each output. (`Post` is the
-- function's `ensures`.)
fresh_unique : OneAnswer 1 fresh-kinds.ps fresh-kinds.r fresh-fn.Post
fresh_unique κs args x y s t p q = one_value p.0 q.0

record_unique : OneContent 1 fresh-kinds.ps fresh-kinds.r fresh-fn.Post (λ κs exit. exit.1.1.1.1.0.now)
record_unique κs args x y s t p q = one_value p.1 q.1

value_unique : OneContent 1 k1-kinds.ps k1-kinds.r k1-fn.Post (λ κs exit. exit.1.0.now)
value_unique κs args x y s t p q = one_value p q

decode_unique : OneAnswer 1 decode-kinds.ps decode-kinds.r decode-fn.Post
decode_unique κs args x y s t p q = one_value p.0 q.0

decoded_unique : OneContent 1 decode-kinds.ps decode-kinds.r decode-fn.Post (λ κs exit. exit.1.1.1.0.now)
decoded_unique κs args x y s t p q = one_value p.1 q.1

encode_unique : OneAnswer 1 encode-kinds.ps encode-kinds.r encode-fn.Post
encode_unique κs args x y s t p q = one_value p.0 q.0

encoded_unique : OneContent 1 encode-kinds.ps encode-kinds.r encode-fn.Post (λ κs exit. exit.1.1.1.1.1.0.now)
encoded_unique κs args x y s t p q = one_value p.1 q.1

step_unique : OneAnswer 3 step-kinds.ps step-kinds.r step-fn.Post
step_unique κs args x y s t p q = one_value p.0 q.0

stepped_unique : OneContent 3 step-kinds.ps step-kinds.r step-fn.Post (λ κs exit. exit.1.1.1.1.1.1.0.now)
stepped_unique κs args x y s t p q = one_value p.1 q.1

judge_unique : OneAnswer 2 judge-kinds.ps judge-kinds.r judge-fn.Post
judge_unique κs args x y s t p q = same_refusal p q (judged_one _ _ _ _ _ p q)

judged_unique : OneContent 2 judge-kinds.ps judge-kinds.r judge-fn.Post (λ κs exit. exit.1.1.1.1.1.0.now)
judged_unique κs args x y s t p q = same_bytes p q (judged_one _ _ _ _ _ p q)

causes_unique : OneAnswer 4 causes-kinds.ps causes-kinds.r causes-fn.Post
causes_unique κs args x y s t p q = same_refusal p q (causes_one _ _ _ _ _ _ _ _ _ _ _ p q)

verdict_unique : OneContent 4 causes-kinds.ps causes-kinds.r causes-fn.Post (λ κs exit. exit.1.1.1.1.1.1.1.0.now)
verdict_unique κs args x y s t p q = same_bytes p q (causes_one _ _ _ _ _ _ _ _ _ _ _ p q)

-- Of the tables of causes this holds but for the entries below the steps of an explained capture, where any causes will do
-- under which the controller sends its rows.
conditions_unique :
    OneContent 4 causes-kinds.ps causes-kinds.r causes-fn.Post
    (λ κs exit. fixed_by exit.1.1.1.1.1.1.1.0.now exit.1.1.1.1.1.0.now)
conditions_unique κs args x y s t p q = same_conditions _ _ _ _ _ _ _ _ _ _ _ p q

commands_unique :
    OneContent 4 causes-kinds.ps causes-kinds.r causes-fn.Post
    (λ κs exit. fixed_by exit.1.1.1.1.1.1.1.0.now exit.1.1.1.1.1.1.0.now)
commands_unique κs args x y s t p q = same_commands _ _ _ _ _ _ _ _ _ _ _ p q

switches_unique : OneAnswer 3 switches-kinds.ps switches-kinds.r switches-fn.Post
switches_unique κs args x y s t p q = one_value p.0 q.0

table_unique : OneContent 3 switches-kinds.ps switches-kinds.r switches-fn.Post (λ κs exit. exit.1.1.1.0.now)
table_unique κs args x y s t p q = one_value p.1.0 q.1.0

changes_unique : OneContent 3 switches-kinds.ps switches-kinds.r switches-fn.Post (λ κs exit. exit.1.1.1.1.0.now)
changes_unique κs args x y s t p q = one_value p.1.1 q.1.1

last_change_unique : OneAnswer 3 last-change-kinds.ps last-change-kinds.r last-change-fn.Post
last_change_unique κs args x y s t p q = one_value p.0 q.0

change_unique : OneContent 3 last-change-kinds.ps last-change-kinds.r last-change-fn.Post (λ κs exit. exit.1.1.1.0.now)
change_unique κs args x y s t p q = one_value p.1 q.1

read_unique : OneAnswer 2 read-kinds.ps read-kinds.r read-fn.Post
read_unique κs args x y s t p q = one_value p.0 q.0

contents_unique : OneContent 2 read-kinds.ps read-kinds.r read-fn.Post (λ κs exit. exit.1.0.now)
contents_unique κs args x y s t p q = one_value p.1 q.1

write_unique : OneAnswer 4 write-kinds.ps write-kinds.r write-fn.Post
write_unique κs args x y s t p q = one_value p.0 q.0

book_unique : OneContent 4 write-kinds.ps write-kinds.r write-fn.Post (λ κs exit. exit.1.1.0.now)
book_unique κs args x y s t p q = one_value p.1.0 q.1.0

size_unique : OneContent 4 write-kinds.ps write-kinds.r write-fn.Post (λ κs exit. exit.1.1.1.0.now)
size_unique κs args x y s t p q = one_value p.1.1 q.1.1

text_unique : OneAnswer 2 table_kinds.ps table_kinds.r table-fn.Post
text_unique κs args x y s t p q = (printed_one p q).1

page_unique : OneContent 2 table_kinds.ps table_kinds.r table-fn.Post (λ κs exit. exit.1.0.now)
page_unique κs args x y s t p q = (printed_one p q).0

-- The outputs have as many bytes as the functions are lent.
record_long : (s : Controller) → length (record_bytes s) ≡ 12
record_long = record_size

value_long : (v : Value) → length (value_bytes v) ≡ 4
value_long v = refl

decoded_long : (d : Decoding) → length (decoded_bytes d) ≡ 6
decoded_long d = refl

encoded_long : (e : Encoding) → length (encoded_bytes e) ≡ 2
encoded_long e = refl

stepped_long : (o : Stepped) → length (outcome_bytes o) ≡ 19
stepped_long = outcome_size

judged_long : (j : Judging) → length (judging_bytes j) ≡ 3
judged_long j = refl

changes_long : (number : ℕ) → length (two_bytes number) ≡ 2
changes_long number = refl

change_long : (l : Looked) → length (looked_bytes l) ≡ 3
change_long l = refl

contents_long : (book : List ℕ) → length (bytes_of (reading book).contents) ≡ 769
contents_long book = length_listed (reading book).contents (read_places book)

size_long : (size : ℕ) → length (four_bytes size) ≡ 4
size_long size = refl

-- A record that is handed out comes back as it was; and one that is handed in with options that there are, whatever its other
-- bytes, is handed out byte for byte. A refused step hands back the bytes that it was given, whatever they are, behind its number
-- and before zeros.
record_right : (s : Controller) → record_in (record_bytes s) ≡ s
record_right = record_back

record_complete : (bytes : List ℕ) → length bytes ≡ 12 → ((i : ℕ) → get_or bytes i 0 < 256)
    → options_fit (get_or bytes 1 0) ≡ true → record_bytes (record_in bytes) ≡ bytes
record_complete = record_again

step_refused : (bytes : List ℕ) → length bytes ≡ 12 → ((i : ℕ) → get_or bytes i 0 < 256)
    → (k1 k2 : ℕ) (conditions : List ℕ) (command c : ℕ) →
    let out = step_bytes bytes k1 k2 conditions command c in
    (get_or out 0 0 ≡ 0 → ⊥) → out ≡ get_or out 0 0 ∷ bytes ++ replicate 6 0
step_refused = refused_step_lem

-- The options, one byte: 1 is hold. With options that there are the door answers as the crates do behind it; above 1 it has
-- refusal 25 before every other number, and a step refusal 3 behind 1 and 2.
options_right : (n options mask w : ℕ) → options_fit options ≡ true
    → fresh_for n options mask w ≡ making n (hold_of options) mask w
options_right = fresh_for_lem

options_refused : (n options mask w : ℕ) (capture : List ℕ) (j : Judging) → 1 < options
    → ((fresh_for n options mask w).refusal ≡ 25) × (RightFor n options mask w capture j → j ≡ refused_by 25)
options_refused = above_refused

step_options : (bytes : List ℕ) (k1 k2 : ℕ) (conditions : List ℕ) (command c : ℕ) → 1 < get_or bytes 1 0 →
    let s = record_in bytes in
    let number = get_or (step_bytes bytes k1 k2 conditions command c) 0 0 in
    number ≡ first_of (settings_faults s.n s.mask ++ ((3 when true) ∷ []))
step_options = above_step

-- A refused write leaves the output as it was, and a size of zeros.
write_refused : (contents bodies out : List ℕ) →
    let wrote = writing (contents_in contents) (length bodies) (length out) in
    (wrote.refusal ≡ 0 → ⊥)
    → (output (contents_in contents) bodies out ≡ out) × (four_bytes wrote.bytes ≡ replicate 4 0)
write_refused contents = refused_write (contents_in contents)

-- The contents that are read are the contents that are written, if their bytes are handed on.
contents_right : (book : List ℕ) → contents_in (bytes_of (reading book).contents) ≡ (reading book).contents
contents_right book = contents_back (reading book).contents (read_places book)

-- From the settings of every capture of a book that was read a fresh record is made.
captures_fresh : (book : List ℕ) → (reading book).refusal ≡ 0
    → (i : ℕ) → i < length (counted (reading book).contents) →
    let e = get_or (counted (reading book).contents) i no_entry in
    making e.n (hold_in e) e.mask e.w ≡ record { refusal = 0; controller = fresh e.n (hold_in e) e.mask e.w }
captures_fresh = capture_fresh

-- The judge that shows the causes refuses no such capture, with tables of 16,384 words. (Nor does the judge: `captures_judged` of
-- `report`.)
captures_caused : (book : List ℕ) → (reading book).refusal ≡ 0
    → (i : ℕ) → i < length (counted (reading book).contents) →
    let e = get_or (counted (reading book).contents) i no_entry in
    (old old2 new new2 : List ℕ) → 16384 ≤ length old → 16384 ≤ length old2 → (j : Judging)
    → Causes e.n (hold_in e) e.mask e.w (body_of book e) old old2 j new new2 → j.refusal ≡ 0
captures_caused = capture_caused

-- Nor is a list of its changes, made afresh in a table of 16,384 entries, refused.
captures_listed : (book : List ℕ) → (reading book).refusal ≡ 0
    → (i : ℕ) → i < length (counted (reading book).contents) →
    let e = get_or (counted (reading book).contents) i no_entry in
    (table : List ℕ) → 16384 ≤ length table → (extending (body_of book e) 0 0 table).refusal ≡ 0
captures_listed = capture_listed

-- A flag is encoded as it was decoded, and one that no pair decodes to has refusal 10, behind refusal 1.
flag_right : (n code channel bridged : ℕ) (remote : Bool)
    → encoding_bytes n code channel bridged (flag remote)
    ≡ encoding n (record { code = code; channel = channel; bridged = bridged; remote = remote })
flag_right = flag_taken

flag_complete : (n code channel bridged remote : ℕ) → sections_fit n ≡ true → 1 < remote
    → encoding_bytes n code channel bridged remote ≡ record { refusal = 10; k1 = 0; k2 = 0 }
flag_complete = flag_refused
