-- What other crates and the proofs cite, passed on from one place.
pub use Rattle.extent_shards.specs.Shards.{shard_bytes, is_within, shards_from, shards_of, shard_limit, first_of, shard_at, IsBounded, joined_extents, joined_map}
pub use Rattle.extent_shards.specs.Values.{SpellPages, BeginsWithPages, body_with, extent_with, run_size, PutsFirst, PutsExtent, csums_of, IsFirstRun, IsLonePage}
pub use Rattle.extent_shards.specs.Cuts.{room_behind, LacksRoom, WritesRun, WritesFront, WritesShard}
pub use Rattle.extent_shards.specs.Reading.{IsShardValue, AddsShard}
