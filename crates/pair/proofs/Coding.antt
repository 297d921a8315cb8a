-- Laws of decoding and encoding: each answer tells the numbers that it was made of, and the two undo each other.
use mathlib.Core.Path.{◌≡◌, refl, sym, ap, ◌∙◌}
use mathlib.Core.Bool.{Bool, true, false, not, ◌&&◌, ◌||◌, and-eq-true_iff, false≢true}
use mathlib.Core.List.{List, [], ◌∷◌}
use mathlib.Core.Logic.{◌↔◌}
use Prim.Native.Nat.{ℕ, ◌+◌, ◌*◌, ◌/◌, ◌%◌, ◌≤◌, ◌<◌}
use native.Mathlib.Omega.{arith}
use lib.Dec.{leb, ltb, eqb, lit<}
use lib.ListN.{drop}
use borrow.Author.Tests.{ltb-true, lt-leb, leb-true, ltb-false, eqb-true, eqb-false, eq-eqb, ne_eqb, le-leb, le-ltb, not-false}
use Rattle.std.specs.Prelude.{Result, Ok, Err}
use Rattle.basics.specs.Answer.{Answers}
use Rattle.basics.specs.First.{◌when◌, first_or}
use Rattle.basics.specs.Settings.{sections_fit}
use Rattle.basics.proofs.One.{answers}
use Rattle.basics.proofs.First.{never_given, none_of}
use Rattle.pair.specs.Request.{requests, listed, carries}
use Rattle.pair.specs.Marks.{code_of, channel_of, bridged_of, bit5, line_bits, mark_number, mark_with}
use Rattle.pair.specs.Marks.{Finding, nothing, alarmed, marked, checks_with, pair_checks, finding, is_nothing, is_alarm, mark_in}
use Rattle.pair.specs.Marks.{usable, alarm, mark, second_usable, alarm_in}
use Rattle.pair.specs.Table.{number_for, listed_in, usable_in}
use Rattle.pair.specs.Coder.{decoded_told, decoded_case, decoding_told, decoding_case}
use Rattle.pair.specs.Coder.{pair_of, decoding_of, decoding_by, decoding, decoding_looked, found_in}
use Rattle.pair.specs.Coder.{line_of, encoding_told, encoding_case, encodable, encoding}
use Rattle.basics.specs.declared.refusal.Refusal.{Refusal}
use Rattle.basics.specs.declared.refusal.Refusal.TheVariants as refusal
use Rattle.pair.specs.declared.Pair.{Pair}
use Rattle.pair.specs.declared.Decoded.{Decoded}
use Rattle.pair.specs.declared.Decoded.TheVariants as decoded
use Rattle.pair.proofs.Rows.{carried_below, carried_within, carried_listed}
use Rattle.pair.proofs.Marked.{mark_some}
use Rattle.pair.proofs.Words.{bit_in, bit_in_lem}
use Rattle.pair.proofs.Looking.{listed_looked, usable_looked}

-- each fault that is found has the number of a mark
abbrev unnamed : Finding → Bool
unnamed nothing = false
unnamed alarmed = false
unnamed (marked m) = not (eqb (mark_number (mark_with m)) m)

checks_named : (l c : Bool) (n k2 : ℕ) → unnamed (first_or nothing (checks_with l c n k2)) ≡ false
checks_named l c n k2 = never_given unnamed nothing (checks_with l c n k2) refl refl

finding_named : (n k1 k2 : ℕ) → unnamed (finding n k1 k2) ≡ false
unfolding finding
finding_named n k1 k2 =
    checks_named (listed requests (code_of k1)) (carries requests n (code_of k1) (channel_of k1)) n k2

-- a number that comes back from its mark is one of a mark, and not 0
named_mark : (m : ℕ) → unnamed (marked m) ≡ false → mark_number (mark_with m) ≡ m
named_mark m h = eqb-true (mark_number (mark_with m)) m (not-false (eqb (mark_number (mark_with m)) m) h)

named_some : (m : ℕ) → unnamed (marked m) ≡ false → eqb m 0 ≡ false
named_some m h = ne_eqb m 0 (λ e. mark_some (mark_with m) (named_mark m h ∙ e))

told_back : (k1 k2 : ℕ) (f : Finding) → unnamed f ≡ false
    → decoded_told (decoded_case (decoding_of k1 k2 f)) ≡ decoding_of k1 k2 f
told_back k1 k2 nothing h = refl
told_back k1 k2 alarmed h = refl
told_back k1 k2 (marked m) h = rw (named_some m h, named_mark m h)

pub found_by : (number n k1 k2 : ℕ) {r : Decoded} → r ≡ decoded_case (decoding_of k1 k2 (found_in number n k2))
    → Answers decoded_told decoded_case (decoding_of k1 k2 (found_in number n k2)) r
found_by number n k1 k2 e =
    answers (told_back k1 k2 (found_in number n k2) (checks_named (listed_in number) (usable_in number n) n k2)) e

-- what is found is no refusal
pub found_case : (k1 k2 : ℕ) (f : Finding) → decoding_case (decoding_of k1 k2 f) ≡ Ok (decoded_case (decoding_of k1 k2 f))
found_case k1 k2 nothing = refl
found_case k1 k2 alarmed = refl
found_case k1 k2 (marked m) = refl

decoding_whole : (n k1 k2 : ℕ) (f : Finding) → unnamed f ≡ false
    → decoding_told (decoding_case (decoding_by n k1 k2 f)) ≡ decoding_by n k1 k2 f
decoding_whole n k1 k2 f named = go (sections_fit n) refl
  where
    go : (t : Bool) → sections_fit n ≡ t → decoding_told (decoding_case (decoding_by n k1 k2 f)) ≡ decoding_by n k1 k2 f
    go true fits = rw (fits, found_case k1 k2 f) (told_back k1 k2 f named)
    go false fits = rw fits

pub looked_by : (number n k1 k2 : ℕ) {r : Result Decoded Refusal} → r ≡ decoding_case (decoding_looked number n k1 k2)
    → Answers decoding_told decoding_case (decoding_looked number n k1 k2) r
unfolding decoding_looked
looked_by number n k1 k2 e =
    answers
    (decoding_whole n k1 k2 (found_in number n k2) (checks_named (listed_in number) (usable_in number n) n k2)) e

encoding_whole : (n : ℕ) (p : Pair) → encoding_told (encoding_case (encoding n p)) ≡ encoding n p
unfolding encoding
encoding_whole n p = go (sections_fit n) (encodable n p) refl refl
  where
    go : (f e : Bool) → sections_fit n ≡ f → encodable n p ≡ e → encoding_told (encoding_case (encoding n p)) ≡ encoding n p
    go true true fits can = rw (fits, can)
    go true false fits can = rw (fits, can)
    go false e fits can = rw fits

pub encoded_by : (n : ℕ) (p : Pair) {r : Result (List ℕ) Refusal} → r ≡ encoding_case (encoding n p)
    → Answers encoding_told encoding_case (encoding n p) r
encoded_by n p e = answers (encoding_whole n p) e

pub line_below : (remote : Bool) → line_of remote < 8
line_below true = lit< tt
line_below false = lit< tt

-- each part of a record that is encoded has room in its four bits
pub record FourBits (p : Pair) : Type 0 where
  pub code : p.code < 16
  pub channel : p.channel < 16
  pub bridged : p.bridged < 16

pub four_bits : (n : ℕ) (p : Pair) → sections_fit n ≡ true → encodable n p ≡ true → FourBits p
four_bits n p fits h =
    let parts = (and-eq-true_iff (carries requests n p.code p.channel) (leb p.bridged n)).0 h in
    let most : n ≤ 14 = leb-true n 14 ((and-eq-true_iff (leb 1 n) (leb n 14)).0 fits).1 in
    let channel : p.channel ≤ n = carried_within requests n p.code p.channel parts.0 in
    let bridged : p.bridged ≤ n = leb-true p.bridged n parts.1 in
    record {
      code = carried_below 16 requests n p.code p.channel refl parts.0;
      channel = omega arith;
      bridged = omega arith;
    }

-- within 1..14 the answer goes by the finding
pub fit_by : (n k1 k2 : ℕ) {found f : Finding} → sections_fit n ≡ true → found ≡ f
    → decoding_case (decoding_by n k1 k2 found) ≡ decoding_case (decoding_of k1 k2 f)
fit_by n k1 k2 fits e = rw (fits, e)

pub fit_decoding : (n k1 k2 : ℕ) {f : Finding} → sections_fit n ≡ true → finding n k1 k2 ≡ f
    → decoding_case (decoding n k1 k2) ≡ decoding_case (decoding_of k1 k2 f)
unfolding decoding
fit_decoding n k1 k2 = fit_by n k1 k2

pub fit_decoded : (n k1 k2 : ℕ) {f : Finding} → sections_fit n ≡ true → finding n k1 k2 ≡ f
    → decoded_case (decoding n k1 k2) ≡ decoded_case (decoding_of k1 k2 f)
unfolding decoding
fit_decoded n k1 k2 fits e = rw (fits, e)

pub unfit_by : (n k1 k2 : ℕ) (found : Finding) → sections_fit n ≡ false
    → decoding_case (decoding_by n k1 k2 found) ≡ Err refusal.Sections
unfit_by n k1 k2 found other = rw other

-- with the number of its K1 a pair decodes as it does
pub decoding_looked_lem : (n k1 k2 : ℕ) → decoding_looked (number_for requests k1) n k1 k2 ≡ decoding n k1 k2
unfolding decoding_looked decoding finding
decoding_looked_lem n k1 k2 = go (sections_fit n) refl
  where
    go : (t : Bool) → sections_fit n ≡ t → decoding_looked (number_for requests k1) n k1 k2 ≡ decoding n k1 k2
    go true fits = rw (listed_looked requests k1, usable_looked requests k1 n fits)
    go false fits = rw fits

-- within 1..14 what is found so is what it decodes to
pub found_fit : (n k1 k2 : ℕ) → sections_fit n ≡ true
    → decoding_of k1 k2 (found_in (number_for requests k1) n k2) ≡ decoding n k1 k2
unfolding decoding finding
found_fit n k1 k2 fits = rw (fits, listed_looked requests k1, usable_looked requests k1 n fits)

pub fit_case : (n k1 k2 : ℕ) → sections_fit n ≡ true
    → decoding_case (decoding n k1 k2) ≡ Ok (decoded_case (decoding n k1 k2))
unfolding decoding
fit_case n k1 k2 fits = rw fits (found_case k1 k2 (finding n k1 k2))

-- and has its mark and its alarm
pub fit_found : (n k1 k2 : ℕ) → sections_fit n ≡ true
    → ((decoding n k1 k2).mark ≡ mark n k1 k2) × ((decoding n k1 k2).alarm ≡ alarm n k1 k2)
unfolding decoding mark alarm
fit_found n k1 k2 fits = rw fits (go (finding n k1 k2))
  where
    go : (f : Finding) → ((decoding_of k1 k2 f).mark ≡ mark_in f) × ((decoding_of k1 k2 f).alarm ≡ is_alarm f)
    go nothing = (refl, refl)
    go alarmed = (refl, refl)
    go (marked m) = (refl, refl)

-- what the checks leave of a usable pair
pub record UsablePair (n k1 k2 : ℕ) : Type 0 where
  pub fits : sections_fit n ≡ true
  pub one : bit5 k2 ≡ 1
  pub line : line_of (eqb (line_bits k2) 0b110) ≡ line_bits k2
  pub carried : carries requests n (code_of k1) (channel_of k1) ≡ true
  pub bridged : leb (bridged_of k2) n ≡ true

line_given : (l : ℕ) → not (eqb l 0b000) && not (eqb l 0b110) ≡ false → line_of (eqb l 0b110) ≡ l
line_given l h = go (eqb l 0b000) (eqb l 0b110) refl refl
  where
    go : (a b : Bool) → eqb l 0b000 ≡ a → eqb l 0b110 ≡ b → line_of (eqb l 0b110) ≡ l
    go a true ea eb = rw eb (sym (eqb-true l 0b110 eb))
    go true false ea eb = rw eb (sym (eqb-true l 0b000 ea))
    go false false ea eb = absurd (false≢true (sym (rw (ea, eb) at h)))

pub usable_parts : (n k1 k2 : ℕ) → sections_fit n ≡ true → usable n k1 k2 ≡ true → UsablePair n k1 k2
unfolding usable finding
usable_parts n k1 k2 fits h =
    let none = (none_of is_nothing nothing (pair_checks n k1 k2) refl refl).0 h in
    let bit : bit5 k2 ≡ 0 → ⊥ = eqb-false (bit5 k2) 0 (none 0) in
    let below : bridged_of k2 ≤ n = ltb-false n (bridged_of k2) (none 5) in
    record {
      fits = fits;
      one = omega arith;
      line = line_given (line_bits k2) (none 2);
      carried = not-false (carries requests n (code_of k1) (channel_of k1)) (none 4);
      bridged = le-leb (bridged_of k2) n below;
    }

line_taken : (l : ℕ) → line_of (eqb l 0b110) ≡ l → not (eqb l 0b000) && not (eqb l 0b110) ≡ false
line_taken l h = go (eqb l 0b000) (eqb l 0b110) refl refl
  where
    go : (a b : Bool) → eqb l 0b000 ≡ a → eqb l 0b110 ≡ b → not (eqb l 0b000) && not (eqb l 0b110) ≡ false
    go true b ea eb = rw ea
    go false true ea eb = rw (ea, eb)
    go false false ea eb = absurd (eqb-false l 0b000 ea (sym (rw eb at h)))

-- and none of them is 111
line_usable : (l : ℕ) → line_of (eqb l 0b110) ≡ l → eqb l 0b111 ≡ false
line_usable l h = go (eqb l 0b110) refl
  where
    go : (t : Bool) → eqb l 0b110 ≡ t → eqb l 0b111 ≡ false
    go true e = let six : l ≡ 0b110 = eqb-true l 0b110 e in ne_eqb l 0b111 (omega arith)
    go false e = let zero : 0 ≡ l = rw e at h in ne_eqb l 0b111 (omega arith)

pub parts_usable : (n k1 k2 : ℕ) → UsablePair n k1 k2 → usable n k1 k2 ≡ true
unfolding usable finding
parts_usable n k1 k2 u =
    let one = u.one in
    let bit : eqb (bit5 k2) 0 ≡ false = ne_eqb (bit5 k2) 0 (omega arith) in
    let known = carried_listed requests n (code_of k1) (channel_of k1) u.carried in
    let below : ltb n (bridged_of k2) ≡ false = le-ltb n (bridged_of k2) (leb-true (bridged_of k2) n u.bridged) in
    rw (bit, line_usable (line_bits k2) u.line, line_taken (line_bits k2) u.line, known, u.carried, below)

-- a usable pair is one in which nothing is found
pub nothing_found : (n k1 k2 : ℕ) → usable n k1 k2 ≡ true → finding n k1 k2 ≡ nothing
unfolding usable
nothing_found n k1 k2 h = go (finding n k1 k2) refl
  where
    go : (f : Finding) → finding n k1 k2 ≡ f → finding n k1 k2 ≡ nothing
    go nothing e = e
    go alarmed e = absurd (false≢true (rw e at h))
    go (marked m) e = absurd (false≢true (rw e at h))

-- which is no alarm
usable_quiet : (n k1 k2 : ℕ) → usable n k1 k2 ≡ true → alarm n k1 k2 ≡ false
unfolding alarm
usable_quiet n k1 k2 h = rw (nothing_found n k1 k2 h)

pub usable_facts : (n k1 k2 : ℕ) (p : Pair) → decoding_case (decoding n k1 k2) ≡ Ok (decoded.Usable p)
    → UsablePair n k1 k2 × (p ≡ pair_of k1 k2)
unfolding decoding usable
usable_facts n k1 k2 p h = go (sections_fit n) (finding n k1 k2) refl refl
  where
    go : (t : Bool) (f : Finding) → sections_fit n ≡ t → finding n k1 k2 ≡ f → UsablePair n k1 k2 × (p ≡ pair_of k1 k2)
    go true nothing fits e =
        let given : Ok (decoded.Usable (pair_of k1 k2)) ≡ Ok (decoded.Usable p) = rw (fits, e) at h in
        (usable_parts n k1 k2 fits (rw e), cc)
    go true alarmed fits e =
        let given : Ok decoded.Alarm ≡ Ok (decoded.Usable p) = rw (fits, e) at h in
        let none : ◌≡◌ {A = ℕ} 0 1 = cc in absurd (omega arith)
    go true (marked m) fits e =
        let named = named_some m (rw e at (finding_named n k1 k2)) in
        let given : Ok (decoded.Marked (mark_with m)) ≡ Ok (decoded.Usable p) = simp (fits, e, named) at h in
        let none : ◌≡◌ {A = ℕ} 0 1 = cc in absurd (omega arith)
    go false f fits e =
        let given : Err refusal.Sections ≡ Ok (decoded.Usable p) = rw fits at h in
        let none : ◌≡◌ {A = ℕ} 0 1 = cc in absurd (omega arith)

pub facts_usable : (n k1 k2 : ℕ) → UsablePair n k1 k2 → decoding_case (decoding n k1 k2) ≡ Ok (decoded.Usable (pair_of k1 k2))
facts_usable n k1 k2 u = fit_decoding n k1 k2 u.fits (nothing_found n k1 k2 (parts_usable n k1 k2 u))

-- the bytes that a record is encoded to
abbrev pub first_byte : Pair → ℕ
first_byte p = p.code * 16 + p.channel

abbrev pub second_byte : Pair → ℕ
second_byte p = p.bridged * 16 + 0b1000 + line_of p.remote

line_read : (remote : Bool) → eqb (line_of remote) 0b110 ≡ remote
line_read true = refl
line_read false = refl

pub bytes_usable : (n : ℕ) (p : Pair) → sections_fit n ≡ true → encodable n p ≡ true
    → UsablePair n (first_byte p) (second_byte p) × (pair_of (first_byte p) (second_byte p) ≡ p)
bytes_usable n p fits can =
    let room = four_bits n p fits can in
    let short = line_below p.remote in
    let parts = (and-eq-true_iff (carries requests n p.code p.channel) (leb p.bridged n)).0 can in
    let code : code_of (first_byte p) ≡ p.code = omega arith in
    let channel : channel_of (first_byte p) ≡ p.channel = omega arith in
    let bridged : bridged_of (second_byte p) ≡ p.bridged = omega arith in
    let line : line_bits (second_byte p) ≡ line_of p.remote = omega arith in
    let eighth : second_byte p / 8 ≡ p.bridged * 2 + 1 = omega arith in
    let read : eqb (line_bits (second_byte p)) 0b110 ≡ p.remote =
    ap (λ (l : ℕ). eqb l 0b110) line ∙ line_read p.remote in (
      record {
        fits = fits;
        one = rw eighth (omega arith);
        line = ap line_of read ∙ sym line;
        carried = rw (code, channel) parts.0;
        bridged = rw bridged parts.1;
      },
      λ i. record { code = code i; channel = channel i; bridged = bridged i; remote = read i },
    )

encoded_facts : (n : ℕ) (p : Pair) (k1 k2 : ℕ) → encoding_case (encoding n p) ≡ Ok (k1 ∷ k2 ∷ [])
    → (sections_fit n ≡ true) × (encodable n p ≡ true) × (first_byte p ≡ k1) × (second_byte p ≡ k2)
unfolding encoding
encoded_facts n p k1 k2 h = go (sections_fit n) (encodable n p) refl refl
  where
    go : (f e : Bool) → sections_fit n ≡ f → encodable n p ≡ e
        → (sections_fit n ≡ true) × (encodable n p ≡ true) × (first_byte p ≡ k1) × (second_byte p ≡ k2)
    go true true fits can =
        let e : Ok (first_byte p ∷ second_byte p ∷ []) ≡ Ok (k1 ∷ k2 ∷ []) = simp (fits, can) at h in
        (fits, can, cc, cc)
    go true false fits can =
        let e : Err refusal.NotDecoded ≡ Ok (k1 ∷ k2 ∷ []) = simp (fits, can) at h in
        let none : ◌≡◌ {A = ℕ} 0 1 = cc in absurd (omega arith)
    go false e fits can =
        let e : Err refusal.Sections ≡ Ok (k1 ∷ k2 ∷ []) = simp fits at h in
        let none : ◌≡◌ {A = ℕ} 0 1 = cc in absurd (omega arith)

pair_encodable : (n k1 k2 : ℕ) → UsablePair n k1 k2 → encodable n (pair_of k1 k2) ≡ true
pair_encodable n k1 k2 u = rw u.carried u.bridged

pub pair_back : (n k1 k2 : ℕ) (p : Pair) → decoding_case (decoding n k1 k2) ≡ Ok (decoded.Usable p)
    → encoding_case (encoding n p) ≡ Ok (k1 ∷ k2 ∷ [])
unfolding encoding
pair_back n k1 k2 p h =
    let facts = usable_facts n k1 k2 p h in
    let u = facts.0 in
    let one = u.one in
    let line = u.line in
    let first : first_byte (pair_of k1 k2) ≡ k1 = omega arith in
    let second : second_byte (pair_of k1 k2) ≡ k2 = omega arith in
    rw (facts.1, u.fits, pair_encodable n k1 k2 u, first, second)

pub record_back : (n : ℕ) (p : Pair) (k1 k2 : ℕ) → encoding_case (encoding n p) ≡ Ok (k1 ∷ k2 ∷ [])
    → decoding_case (decoding n k1 k2) ≡ Ok (decoded.Usable p)
record_back n p k1 k2 h =
    let facts = encoded_facts n p k1 k2 h in
    let made = bytes_usable n p facts.0 facts.1 in
    rw (← facts.2, ← facts.3) (facts_usable n (first_byte p) (second_byte p) made.0 ∙ ap (λ (q : Pair). Ok (decoded.Usable q)) made.1)

-- no record encodes to an alarm
pub record_quiet : (n : ℕ) (p : Pair) (k1 k2 : ℕ) → encoding_case (encoding n p) ≡ Ok (k1 ∷ k2 ∷ [])
    → alarm n k1 k2 ≡ false
record_quiet n p k1 k2 h =
    let facts = usable_facts n k1 k2 p (record_back n p k1 k2 h) in
    usable_quiet n k1 k2 (parts_usable n k1 k2 facts.0)

pub encodable_exact : (n : ℕ) (p : Pair) → sections_fit n ≡ true
    → (encodable n p ≡ true)
    ↔ ((k1 : ℕ) × (k2 : ℕ) × (k1 < 256) × (k2 < 256) × (decoding_case (decoding n k1 k2) ≡ Ok (decoded.Usable p)))
encodable_exact n p fits = (forward, backward)
  where
    forward : encodable n p ≡ true
        → (k1 : ℕ) × (k2 : ℕ) × (k1 < 256) × (k2 < 256) × (decoding_case (decoding n k1 k2) ≡ Ok (decoded.Usable p))
    forward can =
        let room = four_bits n p fits can in
        let short = line_below p.remote in
        let made = bytes_usable n p fits can in
        let back = facts_usable n (first_byte p) (second_byte p) made.0 ∙ ap (λ (q : Pair). Ok (decoded.Usable q)) made.1 in
        (first_byte p, second_byte p, omega arith, omega arith, back)

    backward : (k1 : ℕ) × (k2 : ℕ) × (k1 < 256) × (k2 < 256) × (decoding_case (decoding n k1 k2) ≡ Ok (decoded.Usable p))
        → encodable n p ≡ true
    backward some =
        let facts = usable_facts n some.0 some.1 p some.4 in
        rw facts.1 (pair_encodable n some.0 some.1 facts.0)

-- no check applies: the test of each but that of the code, since a code that carries a channel is listed
on_line : (l c t : Bool) → (c ≡ true → l ≡ true)
    → c && not t ≡ is_nothing (first_or nothing ((marked 3 when not l) ∷ (marked 4 when not c) ∷ (marked 5 when t) ∷ []))
on_line true true true h = refl
on_line true true false h = refl
on_line true false t h = refl
on_line false true t h = absurd (false≢true (h refl))
on_line false false t h = refl

no_fault : (z g a b l c t : Bool) → (c ≡ true → l ≡ true) → (g ≡ true → a || b ≡ false)
    → c && (not z && (a || b) && not t)
    ≡ is_nothing
    (first_or nothing
    ((marked 1 when z)
    ∷ (alarmed when g)
    ∷ (marked 2 when not a && not b)
    ∷ (marked 3 when not l)
    ∷ (marked 4 when not c)
    ∷ (marked 5 when t)
    ∷ []))
no_fault true g a b l true t h k = refl
no_fault true g a b l false t h k = refl
no_fault false true a b l true t h k = rw (k refl)
no_fault false true a b l false t h k = refl
no_fault false false false false l true t h k = refl
no_fault false false false false l false t h k = refl
no_fault false false true b l c t h k = on_line l c t h
no_fault false false false true l c t h k = on_line l c t h

leb_not : (m n : ℕ) → leb m n ≡ not (ltb n m)
leb_not m n = go (ltb n m) refl
  where
    go : (t : Bool) → ltb n m ≡ t → leb m n ≡ not (ltb n m)
    go true e = rw e (lt-leb m n (ltb-true n m e))
    go false e = rw e (le-leb m n (ltb-false n m e))

-- the lower half of a K2 has bit 5, and line bits 000 or 110: one test, computed over the sixteen halves
lower_fits : ℕ → Bool
lower_fits half = not (eqb (half / 8) 0) && (eqb (half % 8) 0b000 || eqb (half % 8) 0b110)

lower_word : (k2 : ℕ)
    → eqb (bit_in 0b0100000100000000 (k2 % 16)) 1
    ≡ not (eqb (bit5 k2) 0) && (eqb (line_bits k2) 0b000 || eqb (line_bits k2) 0b110)
unfolding lower_fits
lower_word k2 =
    let five : k2 % 16 / 8 ≡ bit5 k2 = omega arith in
    let line : k2 % 16 % 8 ≡ line_bits k2 = omega arith in
    let word = bit_in_lem lower_fits 0b0100000100000000 refl (k2 % 16) (omega arith) in
    rw (five, line) at word

line_other : (l : ℕ) → eqb l 0b111 ≡ true → eqb l 0b000 || eqb l 0b110 ≡ false
line_other l e = let seven : l ≡ 0b111 = eqb-true l 0b111 e in rw seven

pub second_test : (n k2 : ℕ)
    → eqb (bit_in 0b0100000100000000 (k2 % 16)) 1 && leb (bridged_of k2) n ≡ second_usable n k2
second_test n k2 = rw (lower_word k2)

-- a pair is usable by its K1 and by its K2
pub usable_test : (n k1 k2 : ℕ) → carries requests n (code_of k1) (channel_of k1) && second_usable n k2 ≡ usable n k1 k2
unfolding usable finding
usable_test n k1 k2 =
    rw (leb_not (bridged_of k2) n)
    (no_fault (eqb (bit5 k2) 0) (eqb (line_bits k2) 0b111) (eqb (line_bits k2) 0b000) (eqb (line_bits k2) 0b110)
    (listed requests (code_of k1)) (carries requests n (code_of k1) (channel_of k1)) (ltb n (bridged_of k2))
    (carried_listed requests n (code_of k1) (channel_of k1)) (line_other (line_bits k2)))

-- an alarm: bit 5 and the line bits, whatever n and K1 are
alarm_bits : (k2 : ℕ) → alarm_in k2 ≡ not (eqb (bit5 k2) 0) && eqb (line_bits k2) 0b111
alarm_bits k2 = go (eqb (bit5 k2) 0) (eqb (line_bits k2) 0b111) refl refl
  where
    go : (z g : Bool) → eqb (bit5 k2) 0 ≡ z → eqb (line_bits k2) 0b111 ≡ g
        → alarm_in k2 ≡ not (eqb (bit5 k2) 0) && eqb (line_bits k2) 0b111
    go true g e f = let zero : bit5 k2 ≡ 0 = eqb-true (bit5 k2) 0 e in rw e (ne_eqb (k2 % 16) 0b1111 (omega arith))
    go false true e f =
        let one : bit5 k2 ≡ 0 → ⊥ = eqb-false (bit5 k2) 0 e in
        let seven : line_bits k2 ≡ 0b111 = eqb-true (line_bits k2) 0b111 f in
        rw (e, f) (eq-eqb (k2 % 16) 0b1111 (omega arith))
    go false false e f =
        let other : line_bits k2 ≡ 0b111 → ⊥ = eqb-false (line_bits k2) 0b111 f in
        rw (e, f) (ne_eqb (k2 % 16) 0b1111 (omega arith))

pub alarm_test : (n k1 k2 : ℕ) → alarm n k1 k2 ≡ alarm_in k2
unfolding alarm finding
alarm_test n k1 k2 = go (eqb (bit5 k2) 0) (eqb (line_bits k2) 0b111) ∙ sym (alarm_bits k2)
  where
    go : (z g : Bool)
        → is_alarm (first_or nothing ((marked 1 when z) ∷ (alarmed when g) ∷ drop 2 (pair_checks n k1 k2))) ≡ not z && g
    go true g = refl
    go false true = refl
    go false false = never_given is_alarm nothing (drop 2 (pair_checks n k1 k2)) refl refl
