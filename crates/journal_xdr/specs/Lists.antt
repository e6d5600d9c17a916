-- Lists of items (RFC 4506): arrays of variable length (4.13), and linked lists, each element after
-- a boolean (4.19).
use Rattle.std.specs.Prelude.{◌≡◌, ℕ, zero, suc, nat_le, Bool, true, false, List, [], ◌∷◌, ◌++◌, length, Option, Some, None}
use Rattle.std.specs.List.{flat_map, AllByRecursion}
use Rattle.journal_xdr.specs.Items.{Item, ◌>>=◌, such_that, tagged}
use Rattle.journal_xdr.specs.Basic.{word, boolean}

-- ---- n values, one after another

-- how they are spelled, each as spelling says
abbrev pub run_text : {T : Type 0} → (T → List ℕ) → List T → List ℕ
run_text spelling values = flat_map spelling values

-- the reading of the front of some bytes
abbrev pub read_run : {T : Type 0} → Item T → ℕ → List ℕ → Option (List T × List ℕ)
read_run a zero bytes = Some ([], bytes)
read_run a (suc n) bytes = a.reading bytes >>= λ x. read_run a n x.1 >>= λ xs. Some (x.0 ∷ xs.0, xs.1)

abbrev pub run : {T : Type 0} → Item T → ℕ → Item (List T)
run a n = record {
  Has = λ values. (length values ≡ n) × AllByRecursion a.Has values;
  spelling = λ values. run_text a.spelling values;
  reading = λ bytes. read_run a n bytes;
}

-- ---- an array of at most limit values: how many there are, and then they

abbrev pub array : {T : Type 0} → ℕ → Item T → Item (List T)
array limit a = tagged (such_that (λ n. nat_le n limit) word) (run a) length

-- how it is spelled
abbrev pub array_text : {T : Type 0} → (T → List ℕ) → List T → List ℕ
array_text spelling values = word.spelling (length values) ++ run_text spelling values

-- ---- a linked list: true before each value, and false after the last

-- a value after true, which says that it follows
abbrev pub link_text : {T : Type 0} → (T → List ℕ) → T → List ℕ
link_text spelling value = boolean.spelling true ++ spelling value

abbrev pub list_text : {T : Type 0} → (T → List ℕ) → List T → List ℕ
list_text spelling values = flat_map (link_text spelling) values ++ boolean.spelling false

-- the reading of the bytes after a boolean, where rest reads those after a value
abbrev pub read_link : {T : Type 0} → Item T → (List ℕ → Option (List T × List ℕ)) → Bool → List ℕ → Option (List T × List ℕ)
read_link a rest false bytes = Some ([], bytes)
read_link a rest true bytes = a.reading bytes >>= λ x. rest x.1 >>= λ xs. Some (x.0 ∷ xs.0, xs.1)

-- the reading of the front of some bytes, of fewer than n values
abbrev pub read_links : {T : Type 0} → Item T → ℕ → List ℕ → Option (List T × List ℕ)
read_links a zero bytes = None
read_links a (suc n) bytes = boolean.reading bytes >>= λ b. read_link a (read_links a n) b.0 b.1

-- Each value takes the bytes of a boolean at least, so that fewer are read than there are bytes
abbrev pub list : {T : Type 0} → Item T → Item (List T)
list a = record {
  Has = λ values. AllByRecursion a.Has values;
  spelling = λ values. list_text a.spelling values;
  reading = λ bytes. read_links a (length bytes) bytes;
}
