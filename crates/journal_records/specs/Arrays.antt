-- Lists of values: how many they are, and then they (RFC 4506, section 4.13).
use Rattle.std.specs.Prelude.{◌≡◌, ◌≤◌, ℕ, zero, suc, nat_le, Bool, IsTrue, List, [], ◌∷◌, length, Option, Some}
use Rattle.std.specs.List.{flat_map, list_all, AllByRecursion}
use Rattle.journal_xdr.specs.Items.{Item, ◌>>=◌, such_that, tagged}
use Rattle.journal_xdr.specs.Basic.{word}

-- this many values, one after another
abbrev pub read_several : {T : Type 0} → ℕ → Item T → List ℕ → Option (List T × List ℕ)
read_several zero a bytes = Some ([], bytes)
read_several (suc n) a bytes = a.reading bytes >>= λ x. read_several n a x.1 >>= λ more. Some (x.0 ∷ more.0, more.1)

unfoldable pub several : {T : Type 0} → ℕ → Item T → Item (List T)
several n a = record {
  Has = λ xs. (length xs ≡ n) × AllByRecursion a.Has xs;
  spelling = λ xs. flat_map a.spelling xs;
  reading = λ bytes. read_several n a bytes;
}

-- a list of at most limit values
unfoldable pub array : {T : Type 0} → ℕ → Item T → Item (List T)
array limit a = tagged (such_that (λ n. nat_le n limit) word) (λ n. several n a) length

-- at most this many, each short
abbrev pub AreFew : {T : Type 0} → ℕ → (T → Bool) → List T → Type 0
AreFew limit is_short xs = (length xs ≤ limit) × IsTrue (list_all is_short xs)
