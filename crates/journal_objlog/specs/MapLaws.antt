-- Laws of the maps: what an image opens as, by what it stands for, and blocks that are as before.
use Rattle.std.proofs.Common.{◌≡◌, inl, inr, ⊎_elim, ℕ, List, sym, subst}
use Rattle.journal_world.specs.Addresses.{Shape}
use Rattle.journal_world.specs.Maps.{SameMap}
use Rattle.journal_world.proofs.SameMaps.{SameMap-refl}
use Rattle.journal_block.specs.Block.{Bytes}
use Rattle.journal_block.specs.Updates.{Content}
use Rattle.journal_circ.specs.StandsFor.{StandsFor}
use Rattle.journal_tail.specs.Homes.{SameBlocks}
use Rattle.journal_tail.specs.Maps.{map_of}
use Rattle.journal_tail.proofs.MapsOfBlocks.{law_of, HasObjects-map_of, map_of-same}
use Rattle.journal_wal.specs.Wal.{WalState, size_of, blocks_now, blocks_cut, blocks_logged, MayStandFor, KeepsBlocks}
use Rattle.journal_objlog.specs.Maps.{OpensAs}
use Rattle.journal_objlog.specs.ObjectLogs.{EachLayout, map_now, map_cut, map_logged, MayOpenAs, KeepsMaps}

-- what stands for blocks opens as their map
pub opens : (layout : Shape) → (content : Content) (image : List Bytes) → StandsFor layout.blocks content image → OpensAs (map_of layout content) image
unfolding map_of
opens layout content image stands = record { content = content; stands = stands; objects = HasObjects-map_of layout (law_of layout) content }

-- a crash leaves what opens as one of the two maps
pub opens_crash : (w : WalState) (layout : Shape) → layout.blocks ≡ size_of w → (image : List Bytes) → MayStandFor w image → MayOpenAs layout w image
opens_crash w layout size image crash = ⊎_elim
    (λ logged. inl (opens layout (blocks_logged w) image (subst (λ (k : ℕ). StandsFor k (blocks_logged w) image) (sym size) logged)))
    (λ cut. inr (opens layout (blocks_cut w) image (subst (λ (k : ℕ). StandsFor k (blocks_cut w) image) (sym size) cut)))
    crash

-- blocks that are as before make maps that are
pub same_maps : (size : ℕ) (f g : Content) → SameBlocks size f g → EachLayout size (λ layout. SameMap (map_of layout f) (map_of layout g))
same_maps size f g same layout is = map_of-same layout (law_of layout) f g (subst (λ (k : ℕ). SameBlocks k f g) (sym is) same)

pub keeps_maps : (old new : WalState) → KeepsBlocks old new → KeepsMaps old new
keeps_maps old new keeps = record {
  now = same_maps (size_of old) (blocks_now new) (blocks_now old) keeps.now;
  cut = same_maps (size_of old) (blocks_cut new) (blocks_cut old) keeps.cut;
  logged = same_maps (size_of old) (blocks_logged new) (blocks_logged old) keeps.logged;
}

-- a log that is as before has the maps that it had
pub KeepsMaps-refl : (w : WalState) → KeepsMaps w w
KeepsMaps-refl w = record {
  now = λ layout size. SameMap-refl (map_now layout w);
  cut = λ layout size. SameMap-refl (map_cut layout w);
  logged = λ layout size. SameMap-refl (map_logged layout w);
}

pub KeepsMaps-path : (old new : WalState) → new ≡ old → KeepsMaps old new
KeepsMaps-path old new is = subst (λ (w : WalState). KeepsMaps old w) (sym is) (KeepsMaps-refl old)
