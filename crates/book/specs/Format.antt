-- The capture book (01, 'Capture book'; 02, f and g), for the reader and for the writer.
use Rattle.std.specs.Prelude.{◌≡◌, Bool, true, not, ◌&&◌, List, [], ◌∷◌, ◌++◌, ℕ, zero, suc, ◌+◌, ◌*◌, ◌-◌, ◌/◌, ◌≤◌, length, get_or, take, drop, replicate}
use Rattle.basics.specs.Fields.{Width, one, two, four, fields_fit, fields_at, field_bytes}
use Rattle.basics.specs.First.{Check, ◌when◌}
use Rattle.basics.specs.Settings.{sections_fit, mask_fits, options_fit, hold_of, settings_checks}
use Rattle.basics.specs.Table.{every}
use Rattle.book.specs.declared.Entry.{Entry}
use Rattle.book.specs.declared.Contents.{Contents}
use Rattle.book.specs.declared.format.Entries.{Entries}

-- byte 0 of a book is 1, and byte 1 the count
abbrev pub count_in : List ℕ → ℕ
count_in book = get_or book 1 0

-- the fields of an entry, and the bytes of each: n (1), spare (1), mask (2), W (2), offset of the body (4), steps (2)
abbrev pub layout : List Width
layout = one ∷ one ∷ two ∷ two ∷ four ∷ two ∷ []

abbrev pub fields : Entry → List ℕ
fields e = e.n ∷ e.spare ∷ e.mask ∷ e.w ∷ e.offset ∷ e.steps ∷ []

abbrev pub named : List ℕ → Entry
named values =
    record {
      n = get_or values 0 0;
      spare = get_or values 1 0;
      mask = get_or values 2 0;
      w = get_or values 3 0;
      offset = get_or values 4 0;
      steps = get_or values 5 0;
    }

-- each field fits into its bytes
abbrev pub entry_fits : Entry → Bool
entry_fits e = fields_fit layout (fields e)

-- the entry that bytes start with, and the bytes of an entry
unfoldable pub entry_in : List ℕ → Entry
entry_in bytes = named (fields_at layout bytes 0)

unfoldable pub entry_bytes : Entry → List ℕ
entry_bytes e = field_bytes layout (fields e)

-- k entries of 12 bytes, one behind the other
unfoldable pub entries_in : ℕ → List ℕ → List Entry
entries_in zero bytes = []
entries_in (suc k) bytes = entry_in bytes ∷ entries_in k (drop 12 bytes)

abbrev pub entries_of : List ℕ → List Entry
entries_of book = entries_in (count_in book) (drop 2 book)

-- the entries that an iterator over bytes has left
abbrev pub entries_left : Entries → List Entry
entries_left s = entries_in (length s.left.now / 12) s.left.now

unfoldable pub contents_bytes : List Entry → List ℕ
contents_bytes [] = []
contents_bytes (e ∷ rest) = entry_bytes e ++ contents_bytes rest

-- a count and 64 places in bytes by themselves: 1 for the count, then 12 for each place
unfoldable pub contents_in : List ℕ → Contents
contents_in bytes = record { count = get_or bytes 0 0; entries = entries_in 64 (drop 1 bytes) }

unfoldable pub bytes_of : Contents → List ℕ
bytes_of contents = contents.count ∷ contents_bytes contents.entries

-- the first body, behind the contents
abbrev pub first_body : ℕ → ℕ
first_body k = 2 + 12 * k

-- where the body of e ends, four bytes a step: there the next one belongs
abbrev pub body_end : ℕ → Entry → ℕ
body_end at e = at + 4 * e.steps

-- the spare byte holds the options: at most 1, and 1 is hold (02, g)
abbrev pub spare_fits : Entry → Bool
spare_fits e = options_fit e.spare

abbrev pub hold_in : Entry → Bool
hold_in e = hold_of e.spare

-- spare byte, n and mask of an entry are such as a group may have; refusals 25, 31 and 32 are for those that are not
abbrev pub settings_fit : Entry → Bool
settings_fit e = spare_fits e && sections_fit e.n && mask_fits e.n e.mask

abbrev pub settings_faults : Entry → List Check
settings_faults e = (25 when not (spare_fits e)) ∷ settings_checks 31 32 e.n e.mask

-- each body starts where the one before it ends, the first at a place, and the last ends with a book of that size
unfoldable pub InOrder : ℕ → ℕ → List Entry → Type 0
InOrder size at [] = at ≡ size
InOrder size at (e ∷ rest) = (e.offset ≡ at) × InOrder size (body_end at e) rest

-- the most bytes that a book has
abbrev pub most : ℕ
most = 65536

-- what it is for bytes to be a book
pub record IsBook (book : List ℕ) : Type 0 where
  pub small : length book ≤ most
  pub one : get_or book 0 0 ≡ 1
  pub few : count_in book ≤ 64
  pub settings : every settings_fit (entries_of book) ≡ true
  pub order : InOrder (length book) (first_body (count_in book)) (entries_of book)

-- the body of an entry, as far as the book reaches; and the bodies joined
abbrev pub body_of : List ℕ → Entry → List ℕ
body_of book e = take (4 * e.steps) (drop e.offset book)

unfoldable pub joined : List ℕ → List Entry → List ℕ
joined book [] = []
joined book (e ∷ rest) = body_of book e ++ joined book rest

-- 64 places: the entries, and zeros past the count
abbrev pub no_entry : Entry
no_entry = record { n = 0; spare = 0; mask = 0; w = 0; offset = 0; steps = 0 }

abbrev pub places : List Entry → List Entry
places entries = entries ++ replicate (64 - length entries) no_entry

-- the entries with the offsets at which their bodies belong
abbrev pub placed_at : ℕ → Entry → Entry
placed_at at e = record { n = e.n; spare = e.spare; mask = e.mask; w = e.w; offset = at; steps = e.steps }

unfoldable pub placed : ℕ → List Entry → List Entry
placed at [] = []
placed at (e ∷ rest) = placed_at at e ∷ placed (body_end at e) rest

-- the book of some entries and their joined bodies
unfoldable pub book_of : List Entry → List ℕ → List ℕ
book_of entries bodies =
    1 ∷ length entries ∷ contents_bytes (placed (first_body (length entries)) entries) ++ bodies
