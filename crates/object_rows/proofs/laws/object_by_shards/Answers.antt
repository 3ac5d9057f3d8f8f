use Rattle.object_rows.proofs.Shards.{by_shards_ascend, by_shards_fit, by_shards_within, by_shards_on_data, by_shards_numbers, by_shards_pages, by_shards_present, first_pages_climb}
use Rattle.object_rows.proofs.laws.object_by_shards.Goals as goal

pub returns : goal.returns
returns c = record {
  ascend = λ s rows coll o shards good are. by_shards_ascend s rows coll o good shards are;
  fit = by_shards_fit;
  within = λ s rows coll o shards size good are has. by_shards_within s rows coll o good shards are size has;
  on_data = λ s rows coll o shards good are. by_shards_on_data s rows coll o good shards are;
  numbers = λ s rows coll o shards size good are has most. by_shards_numbers s rows coll o good shards are size has most;
  pages = λ s rows coll o shards page place good are. by_shards_pages s rows coll o good shards are page place;
  present = λ s rows coll o shards good are. by_shards_present s rows coll o good shards are;
  climb = λ w rows coll o shards are. first_pages_climb shards are.rise;
}
