-- What the length of an object tells of it: one byte is a bit, and any other length a range of the
-- block's bytes.
use Rattle.std.proofs.Common.{◌≡◌, ◌≢◌, ◌≤◌, ◌+◌, ◌/◌, ℕ, true, false, ◌==◌, [], ◌∷◌, IsTrue, Option, Some, None, length, cond, slice_index, slice_set, refl, sym, ◌∙◌, subst, arith, ⊎_elim}
use mir.Val.{bool_byte}
use Rattle.std.specs.Prelude.{slice_range}
use Rattle.std.proofs.lemmas.Bool.{false≢true}
use Rattle.std.proofs.lemmas.List.{take_all}
use Rattle.journal_world.specs.declared.address.Addr.{Addr}
use Rattle.journal_world.specs.declared.address.Kind.{Kind}
use Rattle.journal_world.specs.declared.address.Kind.TheVariants.{Bit, Record, Block}
use Rattle.journal_world.specs.declared.address.RecordSize.{RecordSize}
use Rattle.journal_world.specs.declared.address.RecordSize.TheVariants.{Bytes8, Bytes16, Bytes32, Bytes64, Bytes128, Bytes256, Bytes512, Bytes1024, Bytes2048}
use Rattle.journal_world.specs.Addresses.{Value, Shape, kind_of, starts_object, is_value_of, record_bytes}
use Rattle.journal_world.specs.Maps.{is_value_at}
use Rattle.journal_block.specs.Block.{Bytes, bit_of, with_bit, with_bytes}
use Rattle.journal_object.specs.Objects.{object_of, with_object_of, value_size as size_of, ChangesOnly}
use Rattle.journal_object.proofs.Cuts.{value_size, bit_value, bool_byte-bit, set-one, whole_range, records_apart, starts_inside, starts_multiple}

-- no record is one byte
record_longer : (size : RecordSize) → record_bytes size ≢ 1
record_longer Bytes8 is = omega arith
record_longer Bytes16 is = omega arith
record_longer Bytes32 is = omega arith
record_longer Bytes64 is = omega arith
record_longer Bytes128 is = omega arith
record_longer Bytes256 is = omega arith
record_longer Bytes512 is = omega arith
record_longer Bytes1024 is = omega arith
record_longer Bytes2048 is = omega arith

-- a block as a whole begins at its first bit
block_start : (off : ℕ) → IsTrue (starts_object (Some Block) off) → off ≡ 0
block_start off starts = omega (arith, starts_inside (Some Block) off starts, starts_multiple Block off starts)

-- an object of one byte is a bit, read as 1 or 0
pub object_of-bit : (kind : Option Kind) (bytes out : Bytes) (off byte : ℕ) → IsTrue (starts_object kind off) → length out ≡ size_of kind
    → length out ≡ 1 → byte ≡ bool_byte (bit_of bytes off) → slice_set out 0 byte ≡ object_of kind bytes off
unfolding object_of
object_of-bit None bytes out off byte starts size one is = absurd (false≢true starts)
object_of-bit (Some Bit) bytes out off byte starts size one is = rw (set-one out byte one, is, bool_byte-bit (bit_of bytes off)) refl
object_of-bit (Some (Record n)) bytes out off byte starts size one is = absurd (record_longer n (sym size ∙ one))
object_of-bit (Some Block) bytes out off byte starts size one is = absurd (omega arith)

-- an object of one byte is a value of its kind, whatever bytes the block has
pub is_value_at-bit : (kind : Option Kind) (bytes : Bytes) (off : ℕ) → IsTrue (starts_object kind off) → size_of kind ≡ 1
    → IsTrue (is_value_at kind (object_of kind bytes off))
unfolding object_of
is_value_at-bit None bytes off starts one = absurd (false≢true starts)
is_value_at-bit (Some Bit) bytes off starts one =
    elim (bit_of bytes off) as (λ b. IsTrue (is_value_of Bit (cond b 1 0 ∷ []))) [ true ↦ refl | false ↦ refl ]
is_value_at-bit (Some (Record n)) bytes off starts one = absurd (record_longer n one)
is_value_at-bit (Some Block) bytes off starts one = absurd (omega arith)

-- an object of another length is as many bytes, from the byte on in which it begins
pub object_of-range : (kind : Option Kind) (bytes : Bytes) (off n : ℕ) → IsTrue (starts_object kind off) → length bytes ≡ 4096
    → n ≡ size_of kind → n ≢ 1 → slice_range bytes (off / 8) (off / 8 + n) ≡ object_of kind bytes off
unfolding object_of
object_of-range None bytes off n starts whole size longer = absurd (false≢true starts)
object_of-range (Some Bit) bytes off n starts whole size longer = absurd (longer size)
object_of-range (Some (Record m)) bytes off n starts whole size longer = rw size refl
object_of-range (Some Block) bytes off n starts whole size longer = rw (block_start off starts, size) (take_all 4096 bytes (omega arith))

-- of the objects of one kind in a block, the one at bit `off` becomes the value, and each other
-- stays
pub record Stores (kind : Option Kind) (old new : Bytes) (off : ℕ) (value : Value) : Type 0 where
  pub stored : new ≡ with_object_of kind old off value
  pub changed : object_of kind new off ≡ value
  pub others : (k : ℕ) → IsTrue (starts_object kind k) → k ≢ off → object_of kind new k ≡ object_of kind old k

-- a value of one byte is stored as a bit
pub Stores-bit : (kind : Option Kind) (old new : Bytes) (off : ℕ) (value : Value) → IsTrue (starts_object kind off) → IsTrue (is_value_at kind value)
    → length value ≡ 1 → new ≡ with_bit old off (slice_index value 0 == 1) → bit_of new off ≡ (slice_index value 0 == 1)
    → ((k : ℕ) → k ≢ off → bit_of new k ≡ bit_of old k) → Stores kind old new off value
unfolding object_of with_object_of
Stores-bit None old new off value starts is one contents bit rest = absurd (false≢true starts)
Stores-bit (Some Bit) old new off value starts is one contents bit rest = record {
  stored = contents;
  changed = rw bit (bit_value value is);
  others = λ k at other. rw (rest k other) refl;
}
Stores-bit (Some (Record n)) old new off value starts is one contents bit rest =
    absurd (record_longer n (sym (value_size (Record n) value is) ∙ one))
Stores-bit (Some Block) old new off value starts is one contents bit rest = absurd (omega (arith, value_size Block value is))

-- a value of another length is stored from the byte on in which the object begins
pub Stores-range : (kind : Option Kind) (old new : Bytes) (off : ℕ) (value : Value) → IsTrue (starts_object kind off) → IsTrue (is_value_at kind value)
    → length value ≢ 1 → new ≡ with_bytes old (off / 8) value → length new ≡ 4096 → slice_range new (off / 8) (off / 8 + length value) ≡ value
    → ((j k : ℕ) → k ≤ off / 8 → slice_range new j k ≡ slice_range old j k)
    → ((j k : ℕ) → off / 8 + length value ≤ j → slice_range new j k ≡ slice_range old j k) → Stores kind old new off value
unfolding object_of with_object_of
Stores-range None old new off value starts is longer contents whole range before after = absurd (false≢true starts)
Stores-range (Some Bit) old new off value starts is longer contents whole range before after = absurd (longer (value_size Bit value is))
Stores-range (Some (Record n)) old new off value starts is longer contents whole range before after =
    let size = value_size (Record n) value is in
    record {
      stored = contents;
      changed = rw size at range;
      others = λ k at_k other. ⊎_elim (before _ _) (rw size at after (k / 8) (k / 8 + record_bytes n))
          (records_apart n k off (starts_multiple (Record n) k at_k) (starts_multiple (Record n) off starts) other);
    }
Stores-range (Some Block) old new off value starts is longer contents whole range before after =
    let size = value_size Block value is in
    let start = block_start off starts in
    let all : new ≡ value = whole_range new value (omega arith) (subst (λ o. slice_range new (o / 8) (o / 8 + length value) ≡ value) start range) in
    record {
      stored = all;
      changed = all;
      others = λ k at other. absurd (other (block_start k at ∙ sym start));
    }

-- the objects of a block are of one kind
pub ChangesOnly-stores : (layout : Shape) (old new : Bytes) (a : Addr) (value : Value) → Stores (kind_of layout a.block) old new a.off value
    → ChangesOnly layout old new a value
ChangesOnly-stores layout old new a value stores = record {
  changed = stores.changed;
  others = λ b valid same other.
      subst (λ block. IsTrue (starts_object (kind_of layout block) b.off)
      → object_of (kind_of layout block) new b.off ≡ object_of (kind_of layout block) old b.off) (sym same)
      (λ starts. stores.others b.off starts other) valid;
}
