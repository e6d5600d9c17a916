-- Updates that are kept with the last first.
use Rattle.std.proofs.Common.{◌≡◌, ◌<◌, ◌+◌, ◌-◌, ℕ, List, [], ◌∷◌, length, reverse, get_or, set, sym, ap, ◌∙◌, arith}
use Rattle.std.proofs.lemmas.List.{reverse-reverse, reverse-append, length-reverse, set_at, get_or-reverse}
use Rattle.journal_block.specs.declared.update.Update.{Update}
use Rattle.journal_block.specs.Block.{Bytes}
use Rattle.journal_tail.specs.Staging.{first_bytes, with_first}

module _ (kept later : List Update) (u : Update) (n : ℕ) (turned : reverse kept ≡ u ∷ later) (last : n ≡ length kept - 1) where
  size : length kept ≡ 1 + length later
  size = omega (arith, length-reverse kept, ap length turned)

  -- the last that is kept is the first
  first_is : (d : Update) → get_or kept n d ≡ u
  first_is d =
      ap (λ (k : ℕ). get_or kept k d) (omega (arith, last, size))
      ∙ sym (get_or-reverse kept 0 d (omega (arith, size)))
      ∙ ap (λ (us : List Update). get_or us 0 d) turned

  -- to overwrite the one overwrites the other
  first_set : (v : Update) → reverse (set kept n v) ≡ v ∷ later
  first_set v =
      ap (λ (us : List Update). reverse (set us n v)) (sym (reverse-reverse kept) ∙ ap reverse turned ∙ reverse-append (u ∷ []) later)
      ∙ ap reverse (set_at (reverse later) u [] v n (length-reverse later ∙ omega (arith, last, size)))
      ∙ reverse-append (reverse later) (v ∷ [])
      ∙ ap (λ (us : List Update). v ∷ us) (reverse-reverse later)

module _ (kept : List Update) (n : ℕ) (f : Update) (bytes : Bytes) where
  abbrev pub overwritten_one : Update
  overwritten_one = record { block = f.block; bytes = bytes }

  -- the first update's bytes are overwritten
  pub set_back : (us : List Update) → reverse kept ≡ us → n ≡ length kept - 1 → 0 < length us → f ≡ get_or kept n f
      → reverse (set kept n overwritten_one) ≡ with_first us (first_bytes (reverse (set kept n overwritten_one)))
  set_back [] turned last some is = absurd (omega (arith, some))
  set_back (u ∷ later) turned last some is =
      let same : f ≡ u = is ∙ first_is kept later u n turned last f in
      let done : reverse (set kept n overwritten_one) ≡ overwritten_one ∷ later = first_set kept later u n turned last overwritten_one in
      done ∙ (λ i. record { block = (same i).block; bytes = first_bytes (sym done i) } ∷ later)

  pub bytes_back : (us : List Update) → reverse kept ≡ us → n ≡ length kept - 1 → 0 < length us → f ≡ get_or kept n f
      → (f.bytes ≡ first_bytes us) × (bytes ≡ first_bytes (reverse (set kept n overwritten_one)))
  bytes_back [] turned last some is = absurd (omega (arith, some))
  bytes_back (u ∷ later) turned last some is = (
    ap (λ (x : Update). x.bytes) (is ∙ first_is kept later u n turned last f),
    sym (ap first_bytes (first_set kept later u n turned last overwritten_one)),
  )
