-- The map that the blocks of a disk make.
use Rattle.std.specs.Prelude.{◌≡◌, IsTrue, if◌then◌else◌, filter}
use Rattle.journal_world.specs.declared.address.Addr.{Addr}
use Rattle.journal_world.specs.Addresses.{Value, Shape, kind_of, is_valid}
use Rattle.journal_world.specs.Maps.{Map, value_at, zeros_at, is_value_at, is_object}
use Rattle.journal_block.specs.Block.{Bytes}
use Rattle.journal_block.specs.Updates.{Content}
use Rattle.journal_object.specs.Objects.{object_at, map_of_blocks}

-- the object that a block of these bytes has at the address. Where they are not 4096 bytes, as no
-- block's are, it may be no value: then zeros
abbrev pub object_or_zeros : Shape → Bytes → Addr → Value
object_or_zeros layout bytes a =
    if is_value_at (kind_of layout a.block) (object_at layout bytes a) then object_at layout bytes a else zeros_at (kind_of layout a.block)

-- The map gives each valid address the object that its block holds there
pub record HasObjects (content : Content) (m : Map) : Type 0 where
  pub values : (a : Addr) → IsTrue (is_valid m.layout a) → value_at m a ≡ object_or_zeros m.layout (content a.block) a

-- the map that the blocks of a disk of a layout make
unfoldable pub map_of : Shape → Content → Map
map_of layout content = record { layout = layout; pairs = filter (is_object layout) (map_of_blocks layout content).pairs }
