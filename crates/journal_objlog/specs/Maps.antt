-- The map that an image of a disk opens as.
use Rattle.std.specs.Prelude.{List}
use Rattle.journal_world.specs.Maps.{Map}
use Rattle.journal_block.specs.Block.{Bytes}
use Rattle.journal_block.specs.Updates.{Content}
use Rattle.journal_circ.specs.StandsFor.{StandsFor}
use Rattle.journal_tail.specs.Maps.{HasObjects}

-- A disk that holds this image opens as the map: the image stands for blocks that have its objects
pub record OpensAs (m : Map) (image : List Bytes) : Type 0 where
  pub content : Content
  pub stands : StandsFor m.layout.blocks content image
  pub objects : HasObjects content m
