-- A log that was only read stays one over a further read.
use Rattle.std.proofs.Common.{◌≡◌, ◌<◌, ◌≤◌, ◌+◌, ◌%◌, ◌==◌, nat_lt, lt-ltb, ℕ, zero, suc, Bool, true, cond, [], ◌∷◌, arith, IsTrue, Option, Some, None, IfSome, refl, sym, ap, subst, ◌∙◌}
use Rattle.std.proofs.lemmas.Bool.{eq-eqb, and_from, and_parts}
use Rattle.journal_world.specs.declared.address.Addr.{Addr}
use Rattle.std.specs.Int.{bit_at}
use Rattle.std.proofs.lemmas.Nat.Bits.{bit_at-lt}
use Rattle.journal_world.specs.declared.address.Kind.{Kind}
use Rattle.journal_world.specs.declared.address.Kind.TheVariants.{Bit}
use Rattle.journal_world.specs.Addresses.{Value, Shape, kind_of, is_valid, starts_object}
use Rattle.journal_world.specs.Maps.{value_at, zeros_at, is_value_at, is_object, AreBitsFrom}
use Rattle.journal_block.specs.Block.{Bytes, bit_of}
use Rattle.journal_object.specs.Objects.{object_of, object_at}
use Rattle.journal_object.proofs.MapOfBlocks.{valid_block}
use Rattle.journal_disk.specs.Images.{EveryImage}
use Rattle.journal_wal.specs.Wal.{WalState, size_of, blocks_now, MayStandFor}
use Rattle.journal_tail.specs.Maps.{map_of}
use Rattle.journal_tail.proofs.MapsOfBlocks.{law_of, HasObjects-map_of}
use Rattle.journal_objlog.specs.ObjectLogs.{map_now, KeepsMaps, Crashes, OnlyReads, disk_of}
use Rattle.journal_objlog.specs.MapLaws.{KeepsMaps-refl}
use Rattle.journal_objlog.specs.ReadLaws.{block_read}
use Rattle.journal_objlog.specs.Reading.{OnlyReadSince, IsBlockOf}
use Rattle.journal_objlog.proofs.Openings.{crash_after, OnlyReads-refl, OnlyReads-trans}
use Rattle.journal_objlog.proofs.Refusing.{keeps_trans, still}

-- the object of the block as it is now is the map's value
pub read_value : (n : Shape) (w : WalState) (a : Addr) (bytes : Bytes) (value : Value) → IsTrue (is_object n (a, value))
    → value ≡ object_at n bytes a → bytes ≡ blocks_now w a.block → value ≡ value_at (map_now n w) a
unfolding map_of
read_value n w a bytes value object is now =
    let parts = and_parts (is_valid n a) (is_value_at (kind_of n a.block) value) object in
    let found : value ≡ object_at n (blocks_now w a.block) a = is ∙ ap (λ (b : Bytes). object_at n b a) now in
    sym ((HasObjects-map_of n (law_of n) (blocks_now w)).values a parts.0
    ∙ ap (λ (v : Value). cond (is_value_at (kind_of n a.block) v) v (zeros_at (kind_of n a.block))) (sym found)
    ∙ ap (λ (b : Bool). cond b value (zeros_at (kind_of n a.block))) parts.1)

-- nothing was read yet
pub read_nothing : (w : WalState) → (IsTrue (disk_of w).honest → EveryImage (disk_of w).past (MayStandFor w)) → OnlyReadSince w w
read_nothing w left = record {
  only = OnlyReads-refl w;
  maps = λ honest. KeepsMaps-refl w;
  crash = still w left;
}

-- a further read
pub read_on : (opened old new : WalState) → OnlyReadSince opened old → OnlyReads old new → (IsTrue (disk_of old).honest → KeepsMaps old new)
    → Crashes old new → OnlyReadSince opened new
read_on opened old new read reads maps crash = record {
  only = OnlyReads-trans opened old new read.only reads;
  maps = λ honest. keeps_trans opened old new read.crash.keeps.size (read.maps honest) (maps (subst IsTrue (sym read.crash.keeps.honest) honest));
  crash = crash_after opened old new read.only crash;
}

-- a block that is held is still the log's after a further read
pub held_read : (old new : WalState) → OnlyReads old new → (kept : Option ℕ) (bytes : Bytes) → IfSome kept (IsBlockOf old bytes) → IfSome kept (IsBlockOf new bytes)
held_read old new reads None bytes held = tt
held_read old new reads (Some block) bytes held = λ honest.
    let was : IsTrue (disk_of old).honest = subst IsTrue reads.keeps.honest honest in
    held was ∙ sym (block_read old new reads was block)

-- what is read of it is what was there at first
pub value_read : (n : Shape) (opened old : WalState) → n.blocks ≡ size_of opened → OnlyReadSince opened old → (a : Addr) → IsTrue (is_valid n a)
    → (value : Value) → (IsTrue (disk_of old).honest → value ≡ value_at (map_now n old) a)
    → IsTrue (disk_of opened).honest → value ≡ value_at (map_now n opened) a
unfolding map_of
value_read n opened old size read a valid value is honest =
    is (subst IsTrue (sym read.crash.keeps.honest) honest) ∙ ((read.maps honest).now n size).values a valid

-- the block of an address that is valid there is one of the log's
pub inside_read : (n : Shape) (opened old : WalState) → n.blocks ≡ size_of opened → OnlyReadSince opened old → (a : Addr) → IsTrue (is_valid n a)
    → a.block < size_of old
inside_read n opened old size read a valid = omega (arith, (valid_block n a valid).1, size, read.crash.keeps.size)

-- 64 bits of a block whose objects are bits have addresses
pub bit_valid : (n : Shape) (a : Addr) (i : ℕ) → kind_of n a.block ≡ Some Bit → a.off + i < 32768 → IsTrue (is_valid n (record { block = a.block; off = a.off + i }))
bit_valid n a i kind inside = subst (λ (k : Option Kind). IsTrue (starts_object k (a.off + i))) (sym kind)
    (and_from (nat_lt (a.off + i) 32768) ((a.off + i) % 1 == 0) (lt-ltb (a.off + i) 32768 inside) (eq-eqb ((a.off + i) % 1) 0 (omega arith)))

-- so their block is one of the log's
pub inside_bits : (n : Shape) (opened old : WalState) → n.blocks ≡ size_of opened → OnlyReadSince opened old → (a : Addr) → kind_of n a.block ≡ Some Bit
    → a.off + 64 ≤ 32768 → a.block < size_of old
inside_bits n opened old size read a kind inside =
    inside_read n opened old size read (record { block = a.block; off = a.off + 0 }) (bit_valid n a 0 kind (omega (arith, inside)))

-- the bits of a block are the values of its addresses, where these are bits
pub bits_read : (n : Shape) (opened old : WalState) → n.blocks ≡ size_of opened → OnlyReadSince opened old → (a : Addr) → kind_of n a.block ≡ Some Bit
    → a.off + 64 ≤ 32768 → (bytes : Bytes) (bits : ℕ) → ((k : ℕ) → k < 64 → (bit_at bits k == 1) ≡ bit_of bytes (a.off + k))
    → IsBlockOf old bytes a.block → IsTrue (disk_of opened).honest → AreBitsFrom (map_now n opened) a bits
unfolding object_of
bits_read n opened old size read a kind inside bytes bits of_block block honest i within =
    sym (value_read n opened old size read at valid (bit_at bits i ∷ [])
    (λ still. read_value n old at bytes (bit_at bits i ∷ [])
    (and_from (is_valid n at) (is_value_at (kind_of n a.block) (bit_at bits i ∷ [])) valid fits)
    (sym (ap (λ k. object_of k bytes (a.off + i)) kind ∙ ap (λ (b : Bool). cond b 1 0 ∷ []) (sym (of_block i within)) ∙ ap (λ v. v ∷ []) (one (bit_at bits i) (bit_at-lt bits i))))
    (block still)) honest)
  where
    at : Addr
    at = record { block = a.block; off = a.off + i }

    one : (b : ℕ) → b < 2 → cond (b == 1) 1 0 ≡ b
    one zero low = refl
    one (suc zero) low = refl
    one (suc (suc b)) low = absurd (omega (arith, low))

    valid : IsTrue (is_valid n at)
    valid = bit_valid n a i kind (omega (arith, inside, within))

    fits : IsTrue (is_value_at (kind_of n a.block) (bit_at bits i ∷ []))
    fits = subst (λ (k : Option Kind). IsTrue (is_value_at k (bit_at bits i ∷ []))) (sym kind)
        (and_from (nat_lt (bit_at bits i) 2) true (lt-ltb (bit_at bits i) 2 (bit_at-lt bits i)) refl)
