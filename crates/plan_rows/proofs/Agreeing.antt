-- Rows that agree on collections, and plans over them.
use Rattle.std.proofs.Common.{◌≡◌, inl, inr, ℕ, true, List, refl, sym, ◌∙◌}
use Rattle.std.specs.FinMap as finite
use Rattle.unit_fields.specs.declared.width.Width.{Width}
use Rattle.meta_rows.specs.Prelude.{Rows}
use Rattle.meta_log.specs.declared.slot.Super.{Super}
use Rattle.meta_log.specs.Prelude.{width_of}
use Rattle.object_model.specs.Prelude.{is_named}
use Rattle.row_format.specs.Prelude.{shard_key}
use Rattle.store_image.specs.Prelude.{IsNamedBy}
use Rattle.plan_rows.specs.declared.plan.Plan.{Plan}
use Rattle.plan_rows.specs.Prelude.{IsKeyOfSome, MakesBlob, AreMadeAt, AgreeOn, AgreeOnBlobs, Suits, PlanKeeps}

-- shards name the same blobs where the rows of their collection are the same
pub named_too : (w : Width) (names : List (List ℕ)) (rows other : Rows)
    → ((key : List ℕ) → IsKeyOfSome names key → finite.get rows key ≡ finite.get other key) → (c : List ℕ) (sbid : ℕ) → is_named c names ≡ true
    → IsNamedBy w other c sbid → IsNamedBy w rows c sbid
named_too w names rows other own c sbid among named = record {
  object = named.object;
  page = named.page;
  extents = named.extents;
  has_shard = record {
    fits = named.has_shard.fits;
    stands = own (shard_key c named.object named.page) (record { coll = c; among = among; of = inr (0x4f, named.object, _, inl refl, refl) })
        ∙ named.has_shard.stands;
  };
  names = named.names;
}

pub agree_itself : (w : Width) (names : List (List ℕ)) (rows : Rows) → AgreeOn w names rows rows
agree_itself w names rows = record { own = λ key is. refl; blobs = λ c sbid among named. refl }

pub agree_back : (w : Width) (names : List (List ℕ)) (rows other : Rows) → AgreeOn w names rows other → AgreeOn w names other rows
agree_back w names rows other agree = record {
  own = λ key is. sym (agree.own key is);
  blobs = λ c sbid among named. sym (agree.blobs c sbid among (named_too w names rows other agree.own c sbid among named));
}

pub agree_onward : (w : Width) (names : List (List ℕ)) (rows other later : Rows) → AgreeOn w names rows other → AgreeOn w names other later
    → AgreeOn w names rows later
agree_onward w names rows other later agree more = record {
  own = λ key is. agree.own key is ∙ more.own key is;
  blobs = λ c sbid among named. agree.blobs c sbid among named
      ∙ more.blobs c sbid among (named_too w names other rows (λ key is. sym (agree.own key is)) c sbid among named);
}

module _ (s : Super) (names : List (List ℕ)) (view other : Rows) (plan : Plan) (agree : AgreeOn (width_of s) names view other)
    (blobs : AgreeOnBlobs plan.ops view other) where
  -- what suits a plan over the other rows suits it over these
  pub suits_over : (rows : Rows) → Suits (width_of s) names other plan rows → Suits (width_of s) names view plan rows
  suits_over rows suits = record {
    agree = agree_onward (width_of s) names rows other view suits.agree (agree_back (width_of s) names view other agree);
    blobs = λ sbid changes. suits.blobs sbid changes ∙ sym (blobs sbid changes);
    unmarked = suits.unmarked;
  }

  -- it makes the same blobs over both
  makes_over : (sbid : ℕ) → MakesBlob view plan.ops sbid → MakesBlob other plan.ops sbid
  makes_over sbid makes = record { changes = makes.changes; new = sym (blobs sbid makes.changes) ∙ makes.new }

  made_over : (home : ℕ → List ℕ) → AreMadeAt home names other plan.ops → AreMadeAt home names view plan.ops
  made_over home made sbid makes = made sbid (makes_over sbid makes)

  pub keeps_over : PlanKeeps s names view plan → PlanKeeps s names other plan
  keeps_over keeps = record {
    of = λ home at_home made. keeps.of home
        (λ c sbid among named. at_home c sbid among
        (named_too (width_of s) names other view (λ key is. sym (agree.own key is)) c sbid among named)) (made_over home made);
    fit = keeps.fit;
    fresh = keeps.fresh;
    ascend = keeps.ascend;
    good = λ rows suits. keeps.good rows (suits_over rows suits);
    exact = λ rows suits. keeps.exact rows (suits_over rows suits);
    home = λ home rows suits good at_home made. keeps.home home rows (suits_over rows suits) good at_home (made_over home made);
    owns = λ rows suits. keeps.owns rows (suits_over rows suits);
  }
