-- A kind and its number, and the regions that a block's numbers tell.
use Rattle.std.proofs.Common.{◌≡◌, ◌∙◌, ◌<◌, ◌==◌, ℕ, List, length, if◌then◌else◌, slice_index_or, refl, sym, ap, arith}
use Rattle.std.proofs.lemmas.List.{ext_get_or}
use Rattle.journal_world.specs.declared.address.Kind.{Kind}
use Rattle.journal_world.specs.declared.address.Kind.TheVariants.{Bit, Record, Block}
use Rattle.journal_world.specs.declared.address.RecordSize.TheVariants.{Bytes8, Bytes16, Bytes32, Bytes64, Bytes128, Bytes256, Bytes512, Bytes1024, Bytes2048}
use Rattle.journal_world.specs.declared.layout.Region.{Region}
use Rattle.journal_world.specs.declared.layout.TheConstants.{REGIONS}
use Rattle.journal_world.specs.Addresses.{bits_of}
use Rattle.journal_world.specs.Files.{no_region}
use Rattle.journal_block.specs.Block.{Bytes}
use Rattle.journal_program.specs.Labels.{HasRegions}

-- the kind of a number, which is a block's where it is no kind's
kind_by : ℕ → Kind
kind_by n = if n == 1 then Bit else if n == 64 then Record Bytes8 else if n == 128 then Record Bytes16
    else if n == 256 then Record Bytes32 else if n == 512 then Record Bytes64 else if n == 1024 then Record Bytes128
    else if n == 2048 then Record Bytes256 else if n == 4096 then Record Bytes512 else if n == 8192 then Record Bytes1024
    else if n == 16384 then Record Bytes2048 else Block

kind_by_bits : (kind : Kind) → kind_by (bits_of kind) ≡ kind
unfolding kind_by
kind_by_bits Bit = refl
kind_by_bits (Record Bytes8) = refl
kind_by_bits (Record Bytes16) = refl
kind_by_bits (Record Bytes32) = refl
kind_by_bits (Record Bytes64) = refl
kind_by_bits (Record Bytes128) = refl
kind_by_bits (Record Bytes256) = refl
kind_by_bits (Record Bytes512) = refl
kind_by_bits (Record Bytes1024) = refl
kind_by_bits (Record Bytes2048) = refl
kind_by_bits Block = refl

-- kinds of one number are one
kinds_apart : (a b : Kind) → bits_of a ≡ bits_of b → a ≡ b
kinds_apart a b e = sym (kind_by_bits a) ∙ ap kind_by e ∙ kind_by_bits b

same_region : (r s : Region) → r.first ≡ s.first → bits_of r.kind ≡ bits_of s.kind → r ≡ s
same_region r s e f =
    ap (λ (first : ℕ). record { first = first; kind = r.kind }) e
    ∙ ap (λ (kind : Kind). record { first = s.first; kind = kind }) (kinds_apart r.kind s.kind f)

-- a block tells one list of regions
pub same_regions : (b : Bytes) (xs ys : List Region) → HasRegions b xs → HasRegions b ys → xs ≡ ys
same_regions b xs ys h g = ext_get_or no_region xs ys (h.many ∙ sym g.many) (λ k lt.
    let many : length xs ≡ REGIONS = h.many in
    let low : k < REGIONS = omega arith in
    same_region (slice_index_or xs k no_region) (slice_index_or ys k no_region)
    (sym (h.firsts k low) ∙ g.firsts k low) (sym (h.kinds k low) ∙ g.kinds k low))
