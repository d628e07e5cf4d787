-- The turns of the loop over the genes, from the highest number down. A gene's children have higher numbers, so their places stand; what is on their ways
-- is counted at it, each child at the one gene that it is a child of.
-- Assumes nothing.
use Rattle.std.proofs.Common.{◌≡◌, refl, sym, ◌∙◌, ap, subst, ◌≢◌, ◌⊎◌, inl, inr, ◌||◌, List, ℕ, ◌+◌, ◌-◌, ◌*◌, ◌≤◌, ◌<◌, length, length-set, arith, mul-le-mul, mul-add, mul-zero}
use Rattle.finite.specs.Tests.{same, tally}
use Rattle.finite.specs.Range.{count}
use Rattle.finite.proofs.Cases.{by_eq}
use Rattle.finite.proofs.Tests.{is_same, not_same}
use Rattle.finite.proofs.Sum.{down_start, down_turn, down_fits, down_done}
use Rattle.layout.specs.Events.{number}
use Rattle.layout.specs.inner.Results as R
use Rattle.layout.specs.inner.Results.{blank}
use Rattle.layout.proofs.Placed.{blank_long, blank_placed, written_here, written_other, written_kept}
use Rattle.layout.specs.inner.Genes.{gene_tree}
use Rattle.layout.specs.inner.Genes as L
use Rattle.layout.specs.Headers.{costs}
use Rattle.layout.specs.declared.Header.{Header}
use Rattle.layout.specs.declared.events.Event.{Event}
use Rattle.layout.specs.declared.events.Event.TheVariants.{LeafGene}
use Rattle.layout.specs.declared.results.Placed.{Placed}
use Rattle.layout.specs.declared.tree.Tree.{Tree as Table}
use Rattle.layout.specs.declared.genes.Genes.{Genes}
use Rattle.reconciliation.specs.GeneTrees.{GeneTree}
use Rattle.reconciliation.proofs.Genes.{parent_gene}
use Rattle.displayed.specs.Displayed.{Displayed, Tree, common}
use Rattle.displayed.specs.inner.Tabled.{tree_in}
use Rattle.displayed.specs.Mapping.{place, event, is_duplication, transfers, losses, duplication_count, transfer_count, loss_count, lca_cost}
use Rattle.displayed.proofs.Places.{place_leaf, place_inner, place_node}
use Rattle.displayed.proofs.Children.{root_transfers, root_losses, child_transfers, child_losses}
use Rattle.displayed.proofs.Events.{event_leaf, event_inner, duplication_inner}
use Rattle.displayed.proofs.Gathering.{by_parents}
use Rattle.displayed.proofs.Bounds.{duplications_few, transfers_few, losses_under}
use Rattle.mapping.specs.inner.Climbs.{tree_of}
use Rattle.mapping.specs.inner.Pairs.{event_by, Paired}
use Rattle.mapping.specs.inner.Evaluation.{Family, LeavesUpto, Lent, Seats, seated_by, sent_to, noted_by, Room, raised_by, Counted, total_of, score_of, of_children, Upto, Evaluated}
use Rattle.mapping.specs.declared.Steps.{Steps}
use Rattle.mapping.specs.declared.Pair.{Pair}
use Rattle.mapping.specs.declared.Score.{Score}

-- what is written of a gene
module _ (r : List Placed) (k node : ℕ) (event : Event) (l : length r ≡ 128) (lk : k < 128) where
  abbrev seated : Placed
  seated = record (R.placed r k) { place = node; event = event }

  inside : k < length r
  inside = omega (arith, l)

  seated_long : length (seated_by r k node event) ≡ 128
  unfolding seated_by
  seated_long = length-set r k seated ∙ l

  seated_place : R.place (seated_by r k node event) k ≡ node
  unfolding seated_by
  seated_place = ap (λ (p : Placed). p.place) (written_here r k seated inside)

  seated_event : R.event (seated_by r k node event) k ≡ number event
  unfolding seated_by
  seated_event = ap (λ (p : Placed). number p.event) (written_here r k seated inside)

  seated_other : (g : ℕ) → g ≢ k → R.placed (seated_by r k node event) g ≡ R.placed r g
  unfolding seated_by
  seated_other = written_other r k seated inside

  seated_transfers : (g : ℕ) → R.transfers (seated_by r k node event) g ≡ R.transfers r g
  unfolding seated_by
  seated_transfers = written_kept r k seated inside (λ p. p.transfers) refl

  seated_losses : (g : ℕ) → R.losses (seated_by r k node event) g ≡ R.losses r g
  unfolding seated_by
  seated_losses = written_kept r k seated inside (λ p. p.losses) refl

-- the leaf genes one after another
pub leaves_start : (g : Genes) {r : List Placed} → r ≡ blank → LeavesUpto g 0 r
leaves_start g e = rw e (record {
  long = blank_long;
  places = λ j a b. absurd (omega arith);
  events = λ j a b. absurd (omega arith);
  no_transfers = λ j. ap (λ (p : Placed). p.transfers) (blank_placed j);
  no_losses = λ j. ap (λ (p : Placed). p.losses) (blank_placed j);
})

module _ {g : Genes} {r : List Placed} (k : ℕ) (low : 1 ≤ k) (u : LeavesUpto g (k - 1) r) where
  pub leaves_skip : L.left g k ≢ 0 → LeavesUpto g k r
  leaves_skip d = record {
    long = u.long;
    places = λ j a b e. u.places j a (below j b e) e;
    events = λ j a b e. u.events j a (below j b e) e;
    no_transfers = u.no_transfers;
    no_losses = u.no_losses;
  }
    where
      below : (j : ℕ) → j ≤ k → L.left g j ≡ 0 → j ≤ k - 1
      below j b e = by_eq j k (λ q. absurd (d (ap (L.left g) (sym q) ∙ e))) (λ q. omega arith)

  pub leaves_next : {s : List Placed} → k ≤ 127 → s ≡ seated_by r k (L.leaf g k) LeafGene → LeavesUpto g k s
  leaves_next l q = rw q (record {
    long = seated_long r k v LeafGene u.long lk;
    places = λ j a b e. by_eq j k (λ p. rw p (seated_place r k v LeafGene u.long lk)) (λ p. ap (λ (x : Placed). x.place) (seated_other r k v LeafGene u.long lk j p) ∙ u.places j a (omega arith) e);
    events = λ j a b e. by_eq j k (λ p. rw p (seated_event r k v LeafGene u.long lk)) (λ p. ap (λ (x : Placed). number x.event) (seated_other r k v LeafGene u.long lk j p) ∙ u.events j a (omega arith) e);
    no_transfers = λ j. seated_transfers r k v LeafGene u.long lk j ∙ u.no_transfers j;
    no_losses = λ j. seated_losses r k v LeafGene u.long lk j ∙ u.no_losses j;
  })
    where
      v : ℕ
      v = L.leaf g k

      lk : k < 128
      lk = omega arith

pub leaves_after : {g : Genes} {r : List Placed} (k : ℕ) → LeavesUpto g k r → LeavesUpto g (k + 1 - 1) r
leaves_after {g} {r} k u = let e : k ≡ k + 1 - 1 = omega arith in subst (λ (j : ℕ). LeavesUpto g j r) e u

pub leaves_done : {m k : ℕ} {g : Genes} {r : List Placed} → m ≤ k → LeavesUpto g k r → Lent (gene_tree m g) r
unfolding gene_tree
leaves_done l u = record {
  long = u.long;
  leaf_places = λ j a b e. u.places j a (omega arith) e;
  leaf_events = λ j a b e. u.events j a (omega arith) e;
  no_transfers = λ j _. u.no_transfers j;
  no_losses = λ j _. u.no_losses j;
}

-- what is written of a way
module _ (r : List Placed) (k : ℕ) (w : Steps) (l : length r ≡ 128) (lk : k < 128) where
  abbrev sent : Placed
  sent = record (R.placed r k) { transfers = w.transfers; losses = w.losses }

  within : k < length r
  within = omega (arith, l)

  sent_long : length (sent_to r k w) ≡ 128
  unfolding sent_to
  sent_long = length-set r k sent ∙ l

  sent_transfers : R.transfers (sent_to r k w) k ≡ w.transfers
  unfolding sent_to
  sent_transfers = ap (λ (p : Placed). p.transfers) (written_here r k sent within)

  sent_losses : R.losses (sent_to r k w) k ≡ w.losses
  unfolding sent_to
  sent_losses = ap (λ (p : Placed). p.losses) (written_here r k sent within)

  sent_other : (g : ℕ) → g ≢ k → R.placed (sent_to r k w) g ≡ R.placed r g
  unfolding sent_to
  sent_other = written_other r k sent within

  sent_place : (g : ℕ) → R.place (sent_to r k w) g ≡ R.place r g
  unfolding sent_to
  sent_place = written_kept r k sent within (λ p. p.place) refl

  sent_event : (g : ℕ) → R.event (sent_to r k w) g ≡ R.event r g
  unfolding sent_to
  sent_event = written_kept r k sent within (λ p. number p.event) refl

-- what is written of an inner gene and its children
module _ (r : List Placed) (k a b : ℕ) (p : Pair) (l : length r ≡ 128) (lk : k < 128) (la : a < 128) (lb : b < 128) where
  abbrev r₁ : List Placed
  r₁ = seated_by r k p.node p.event

  abbrev r₂ : List Placed
  r₂ = sent_to r₁ a p.left

  l₁ : length r₁ ≡ 128
  l₁ = seated_long r k p.node p.event l lk

  l₂ : length r₂ ≡ 128
  l₂ = sent_long r₁ a p.left l₁ la

  noted_long : length (noted_by r k a b p) ≡ 128
  unfolding noted_by
  noted_long = sent_long r₂ b p.right l₂ lb

  -- places and events
  front_place : (g : ℕ) → R.place (noted_by r k a b p) g ≡ R.place r₁ g
  unfolding noted_by
  front_place g = sent_place r₂ b p.right l₂ lb g ∙ sent_place r₁ a p.left l₁ la g

  front_event : (g : ℕ) → R.event (noted_by r k a b p) g ≡ R.event r₁ g
  unfolding noted_by
  front_event g = sent_event r₂ b p.right l₂ lb g ∙ sent_event r₁ a p.left l₁ la g

  noted_place : R.place (noted_by r k a b p) k ≡ p.node
  noted_place = front_place k ∙ seated_place r k p.node p.event l lk

  noted_event : R.event (noted_by r k a b p) k ≡ number p.event
  noted_event = front_event k ∙ seated_event r k p.node p.event l lk

  place_before : (g : ℕ) → g ≢ k → R.place (noted_by r k a b p) g ≡ R.place r g
  place_before g d = front_place g ∙ ap (λ (x : Placed). x.place) (seated_other r k p.node p.event l lk g d)

  event_before : (g : ℕ) → g ≢ k → R.event (noted_by r k a b p) g ≡ R.event r g
  event_before g d = front_event g ∙ ap (λ (x : Placed). number x.event) (seated_other r k p.node p.event l lk g d)

  -- ways
  noted_right : (R.transfers (noted_by r k a b p) b ≡ p.right.transfers) × (R.losses (noted_by r k a b p) b ≡ p.right.losses)
  unfolding noted_by
  noted_right = (sent_transfers r₂ b p.right l₂ lb, sent_losses r₂ b p.right l₂ lb)

  noted_left : a ≢ b → (R.transfers (noted_by r k a b p) a ≡ p.left.transfers) × (R.losses (noted_by r k a b p) a ≡ p.left.losses)
  unfolding noted_by
  noted_left d = (
    ap (λ (x : Placed). x.transfers) (sent_other r₂ b p.right l₂ lb a d) ∙ sent_transfers r₁ a p.left l₁ la,
    ap (λ (x : Placed). x.losses) (sent_other r₂ b p.right l₂ lb a d) ∙ sent_losses r₁ a p.left l₁ la,
  )

  beside : (g : ℕ) → g ≢ a → g ≢ b → R.placed (noted_by r k a b p) g ≡ R.placed r₁ g
  unfolding noted_by
  beside g na nb = sent_other r₂ b p.right l₂ lb g nb ∙ sent_other r₁ a p.left l₁ la g na

  transfers_before : (g : ℕ) → g ≢ a → g ≢ b → R.transfers (noted_by r k a b p) g ≡ R.transfers r g
  transfers_before g na nb = ap (λ (x : Placed). x.transfers) (beside g na nb) ∙ seated_transfers r k p.node p.event l lk g

  losses_before : (g : ℕ) → g ≢ a → g ≢ b → R.losses (noted_by r k a b p) g ≡ R.losses r g
  losses_before g na nb = ap (λ (x : Placed). x.losses) (beside g na nb) ∙ seated_losses r k p.node p.event l lk g

times : {a b c d : ℕ} → a ≤ c → b ≤ d → a * b ≤ c * d
times = mul-le-mul

module _ {h : Header} {t : Table} {g : Genes} (F : Family h t g) where
  abbrev T : Displayed
  T = tree_of h.nodes t

  abbrev G : GeneTree
  G = gene_tree h.genes g

  ok : Tree T
  ok = F.tree.tree

  count_is : G.count ≡ h.genes
  unfolding gene_tree
  count_is = refl

  size_few : T.size ≤ 127
  unfolding tree_of tree_in
  size_few = F.limits.few_nodes

  genes_few : G.count ≤ 127
  genes_few = omega (arith, count_is, F.limits.few_genes)

  -- the counts of all genes
  all_duplications : duplication_count T G ≤ 63
  all_duplications = duplications_few T ok G F.rooted F.seated size_few genes_few

  all_transfers : transfer_count T G ≤ 16129
  all_transfers = transfers_few T ok G F.rooted F.seated size_few genes_few

  all_losses : loss_count T G ≤ 16129
  all_losses = losses_under T ok G F.rooted F.seated size_few genes_few

  -- before the first gene
  parent_low : (j : ℕ) → G.count < G.parent j → ⊥
  parent_low j l = omega (arith, (parent_gene G F.rooted j (λ e. omega arith)).1)

  pub upto_start : {r : List Placed} {s : Score} → Lent G r → (s.duplications ≡ 0) × ((s.transfers ≡ 0) × ((s.losses ≡ 0) × (s.cost ≡ 0))) → Upto T G (costs h) h.genes r s
  unfolding duplication_count transfer_count loss_count count of_children gene_tree
  upto_start l z = record {
    lent = l;
    places = λ j a b. absurd (omega arith);
    events = λ j a b. absurd (omega arith);
    ways = λ j a. absurd (parent_low j a);
    lost = λ j a. absurd (parent_low j a);
    duplications = rw z.0 (down_start _ G.count);
    transferred = rw z.1.0 (down_start _ G.count) ∙ by_parents G F.rooted (transfers T G) (λ j e. root_transfers T G j e);
    given_up = rw z.1.1.0 (down_start _ G.count) ∙ by_parents G F.rooted (losses T G) (λ j e. root_losses T G j e);
    cost = rw (z.0, z.1.1.1) (sym (mul-zero h.duplication));
  }

  -- gene k is next
  module _ {k : ℕ} (next : (1 ≤ k) × (k ≤ h.genes)) {r : List Placed} {s : Score} (u : Upto T G (costs h) k r s) where
    low : 1 ≤ k
    low = next.0

    high : k ≤ h.genes
    high = next.1

    lk : k < 128
    lk = omega (arith, high, F.limits.few_genes)

    lg : k ≤ G.count
    lg = omega (arith, high, count_is)

    duplications_low : s.duplications ≤ 63
    duplications_low = omega (arith, u.duplications, all_duplications)

    cost_few : s.cost ≤ 99 * 127
    cost_few = omega (arith, u.cost, times {a = h.duplication} {b = s.duplications} {c = 99} {d = 127} F.limits.duplication (omega (arith, duplications_low)))

    -- a leaf gene
    module _ (e : G.left k ≡ 0) where
      none : (f : ℕ → ℕ) → 0 ≡ of_children G f k
      unfolding of_children
      none f = rw (is_same e)

      not_parent : (j : ℕ) → G.parent j ≢ k
      not_parent j q = F.rooted.parent_inner j (λ z. omega arith) (ap G.left q ∙ e)

      pub upto_leaf : Upto T G (costs h) (k - 1) r s
      upto_leaf = record {
        lent = u.lent;
        places = λ j a b. by_eq j k (λ p. rw p (u.lent.leaf_places k low lg e ∙ sym (place_leaf T G F.rooted k e))) (λ d. u.places j (omega arith) b);
        events = λ j a b. by_eq j k (λ p. rw p (u.lent.leaf_events k low lg e ∙ sym (event_leaf T G k e))) (λ d. u.events j (omega arith) b);
        ways = λ j a. u.ways j (beyond j a);
        lost = λ j a. u.lost j (beyond j a);
        duplications = same_sum _ _ _ (down_turn _ k s.duplications 0 _ low u.duplications (rw (event_leaf T G k e, not_same {m = 0} {n = 2} (λ p. omega arith))));
        transferred = same_sum _ _ _ (down_turn _ k s.transfers 0 _ low u.transferred (none (transfers T G)));
        given_up = same_sum _ _ _ (down_turn _ k s.losses 0 _ low u.given_up (none (losses T G)));
        cost = u.cost;
      }
        where
          beyond : (j : ℕ) → k - 1 < G.parent j → k < G.parent j
          beyond j a = by_eq (G.parent j) k (λ p. absurd (not_parent j p)) (λ d. omega arith)

          same_sum : (a b c : ℕ) → a + 0 + b ≡ c → a + b ≡ c
          same_sum a b c p = omega (arith, p)

    -- an inner gene
    module _ (d : G.left k ≢ 0) where
      abbrev a : ℕ
      a = G.left k

      abbrev b : ℕ
      b = G.right k

      above_a : k < a
      above_a = F.rooted.left_more k d

      above_b : k < b
      above_b = F.rooted.right_more k d

      in_a : a ≤ G.count
      in_a = F.rooted.left_in k d

      in_b : b ≤ G.count
      in_b = F.rooted.right_in k d

      place_a : R.place r a ≡ place T G a
      place_a = u.places a above_a in_a

      place_b : R.place r b ≡ place T G b
      place_b = u.places b above_b in_b

      pub seats : Seats h.nodes t r a b
      seats = record {
        left = rw place_a (place_node T ok G F.rooted F.seated a (omega (arith, above_a)) in_a);
        right = rw place_b (place_node T ok G F.rooted F.seated b (omega (arith, above_b)) in_b);
      }

      pub inner_few : (k ≤ 127) × (a ≤ 127) × (b ≤ 127)
      inner_few = (omega (arith, lk), omega (arith, in_a, genes_few), omega (arith, in_b, genes_few))

      module _ (p : Pair) (i : Paired T (R.place r a) (R.place r b) p) where
        meets : common T (R.place r a) (R.place r b) ≡ place T G k
        meets = rw (place_a, place_b) (sym (place_inner T G F.rooted k d))

        node_is : p.node ≡ place T G k
        node_is = i.node ∙ meets

        event_is : number p.event ≡ event T G k
        unfolding event_by
        event_is = i.event ∙ rw (meets, place_a, place_b) (sym (event_inner T G k d))

        duplicates : (same (R.place r a) (common T (R.place r a) (R.place r b)) || same (R.place r b) (common T (R.place r a) (R.place r b))) ≡ is_duplication T G k
        duplicates = rw (meets, place_a, place_b) (sym (duplication_inner T G k d))

        z : k ≢ 0
        z e = omega arith

        left_way : (p.left.transfers ≡ transfers T G a) × (p.left.losses ≡ losses T G a)
        left_way = (
          i.left.transfers ∙ rw (meets, place_a) (sym (child_transfers T ok G F.rooted F.seated k a z (F.rooted.left_parent k d))),
          i.left.losses ∙ rw (duplicates, meets, place_a) (sym (child_losses T ok G F.rooted F.seated k a z (F.rooted.left_parent k d))),
        )

        right_way : (p.right.transfers ≡ transfers T G b) × (p.right.losses ≡ losses T G b)
        right_way = (
          i.right.transfers ∙ rw (meets, place_b) (sym (child_transfers T ok G F.rooted F.seated k b z (F.rooted.right_parent k d))),
          i.right.losses ∙ rw (duplicates, meets, place_b) (sym (child_losses T ok G F.rooted F.seated k b z (F.rooted.right_parent k d))),
        )

        of_children_lem : (f : ℕ → ℕ) → f a + f b ≡ of_children G f k
        unfolding of_children
        of_children_lem f = rw (not_same d)

        more_transfers : p.left.transfers + p.right.transfers ≡ of_children G (transfers T G) k
        more_transfers = rw (left_way.0, right_way.0) (of_children_lem (transfers T G))

        more_losses : p.left.losses + p.right.losses ≡ of_children G (losses T G) k
        more_losses = rw (left_way.1, right_way.1) (of_children_lem (losses T G))

        pub room : Room h s p
        room = record {
          duplication = F.limits.duplication;
          duplications = omega (arith, duplications_low);
          transfers = omega (arith, down_fits _ k s.transfers _ _ low u.transferred more_transfers, all_transfers);
          losses = omega (arith, down_fits _ k s.losses _ _ low u.given_up more_losses, all_losses);
          cost = cost_few;
        }

        noted : (v : List Placed) → v ≡ noted_by r k a b p → Upto T G (costs h) (k - 1) v (raised_by h s p)
        unfolding raised_by
        noted v q = rw q (record {
          lent = record {
            long = noted_long r k a b p l lk la lb;
            leaf_places = λ j x y e. place_before r k a b p l lk la lb j (inner j e) ∙ u.lent.leaf_places j x y e;
            leaf_events = λ j x y e. event_before r k a b p l lk la lb j (inner j e) ∙ u.lent.leaf_events j x y e;
            no_transfers = λ j e. transfers_before r k a b p l lk la lb j (not_a j e) (not_b j e) ∙ u.lent.no_transfers j e;
            no_losses = λ j e. losses_before r k a b p l lk la lb j (not_a j e) (not_b j e) ∙ u.lent.no_losses j e;
          };
          places = λ j x y. by_eq j k (λ e. rw e (noted_place r k a b p l lk la lb ∙ node_is))
              (λ n. place_before r k a b p l lk la lb j n ∙ u.places j (omega arith) y);
          events = λ j x y. by_eq j k (λ e. rw e (noted_event r k a b p l lk la lb ∙ event_is))
              (λ n. event_before r k a b p l lk la lb j n ∙ u.events j (omega arith) y);
          ways = λ j x. way (R.transfers (noted_by r k a b p)) (transfers T G) j x ((noted_left r k a b p l lk la lb apart).0 ∙ left_way.0) ((noted_right r k a b p l lk la lb).0 ∙ right_way.0)
              (λ na nb y. transfers_before r k a b p l lk la lb j na nb ∙ u.ways j y);
          lost = λ j x. way (R.losses (noted_by r k a b p)) (losses T G) j x ((noted_left r k a b p l lk la lb apart).1 ∙ left_way.1) ((noted_right r k a b p l lk la lb).1 ∙ right_way.1)
              (λ na nb y. losses_before r k a b p l lk la lb j na nb ∙ u.lost j y);
          duplications = down_turn _ k s.duplications _ _ low u.duplications (rw event_is);
          transferred = down_turn _ k s.transfers _ _ low u.transferred more_transfers;
          given_up = down_turn _ k s.losses _ _ low u.given_up more_losses;
          cost = charged;
        })
          where
            l : length r ≡ 128
            l = u.lent.long

            la : a < 128
            la = omega (arith, inner_few.1)

            lb : b < 128
            lb = omega (arith, inner_few.2)

            apart : a ≢ b
            apart = F.rooted.apart k d

            -- a leaf gene is not k
            inner : (j : ℕ) → G.left j ≡ 0 → j ≢ k
            inner j e q = d (ap G.left (sym q) ∙ e)

            -- a gene without parent is no child of k
            not_a : (j : ℕ) → G.parent j ≡ 0 → j ≢ a
            not_a j e q = z (sym (F.rooted.left_parent k d) ∙ ap G.parent (sym q) ∙ e)

            not_b : (j : ℕ) → G.parent j ≡ 0 → j ≢ b
            not_b j e q = z (sym (F.rooted.right_parent k d) ∙ ap G.parent (sym q) ∙ e)

            -- the ways of k's children, and those of other genes' children
            way : (f w : ℕ → ℕ) (j : ℕ) → k - 1 < G.parent j → f a ≡ w a → f b ≡ w b → (j ≢ a → j ≢ b → k < G.parent j → f j ≡ w j) → f j ≡ w j
            way f w j x ea eb rest = by_eq j a (λ q. rw q ea) (λ na. by_eq j b (λ q. rw q eb) (λ nb. rest na nb (beyond na nb)))
              where
                beyond : j ≢ a → j ≢ b → k < G.parent j
                beyond na nb = by_eq (G.parent j) k (λ q. absurd (pick q (F.rooted.is_child j (λ e. omega arith)))) (λ n. omega arith)
                  where
                    pick : G.parent j ≡ k → (G.left (G.parent j) ≡ j) ⊎ (G.right (G.parent j) ≡ j) → ⊥
                    pick q (inl e) = na (sym e ∙ ap G.left q)
                    pick q (inr e) = nb (sym e ∙ ap G.right q)

            charged : s.cost + h.duplication * tally (same (number p.event) 2) ≡ (costs h).duplication * (s.duplications + tally (same (number p.event) 2))
            charged = sym (mul-add (costs h).duplication s.duplications (tally (same (number p.event) 2)) ∙ rw (← u.cost))

    -- the same with the children as the table has them
    pub leaf_turn : L.left g k ≡ 0 → Upto T G (costs h) (k - 1) r s
    unfolding gene_tree
    leaf_turn e = upto_leaf e

    module _ (d : L.left g k ≢ 0) where
      pub inner_fits : Seats h.nodes t r (L.left g k) (L.right g k) × (k ≤ 127) × (L.left g k ≤ 127) × (L.right g k ≤ 127)
      unfolding gene_tree
      inner_fits = let f = inner_few d in (seats d, f.0, f.1, f.2)

      module _ {p : Pair} (i : Paired T (R.place r (L.left g k)) (R.place r (L.right g k)) p) where
        pub inner_room : Room h s p
        unfolding gene_tree
        inner_room = room d p i

        pub inner_turn : {x : List Placed} {e : Score} → x ≡ noted_by r k (L.left g k) (L.right g k) p → e ≡ raised_by h s p → Upto T G (costs h) (k - 1) x e
        unfolding gene_tree
        inner_turn {x} q w = rw w (noted d p i x q)

  -- after the last gene
  module _ {r : List Placed} {s : Score} {k : ℕ} (none : k ≤ 0) (u : Upto T G (costs h) k r s) where
    done_duplications : s.duplications ≡ duplication_count T G
    done_duplications = down_done _ k s.duplications _ none u.duplications

    done_transfers : s.transfers ≡ transfer_count T G
    done_transfers = down_done _ k s.transfers _ none u.transferred

    done_losses : s.losses ≡ loss_count T G
    done_losses = down_done _ k s.losses _ none u.given_up

    pub counted : Counted h s
    counted = record {
      limits = F.limits;
      transfers = omega (arith, done_transfers, all_transfers);
      losses = omega (arith, done_losses, all_losses);
      cost = omega (arith, u.cost, times {a = h.duplication} {b = s.duplications} {c = 99} {d = 127} F.limits.duplication (omega (arith, done_duplications, all_duplications)));
    }

    pub scored : {e : Score} → e ≡ total_of h s → e ≡ score_of T G (costs h)
    unfolding total_of score_of lca_cost
    scored q = q ∙ rw (u.cost, done_duplications, done_transfers, done_losses) (ap (λ (x : ℕ). made x) whole)
      where
        made : ℕ → Score
        made x = record { duplications = duplication_count T G; transfers = transfer_count T G; losses = loss_count T G; cost = x }

        whole : h.duplication * duplication_count T G + (h.transfer * transfer_count T G + h.loss * loss_count T G)
            ≡ h.duplication * duplication_count T G + h.transfer * transfer_count T G + h.loss * loss_count T G
        whole = omega arith

    pub evaluated : Evaluated T G r
    evaluated = record {
      lent = u.lent;
      places = λ g a b. u.places g (omega arith) b;
      events = λ g a b. u.events g (omega arith) b;
      ways = λ g a b. by_eq (G.parent g) 0 (λ e. u.lent.no_transfers g e ∙ sym (root_transfers T G g e)) (λ d. u.ways g (omega arith));
      lost = λ g a b. by_eq (G.parent g) 0 (λ e. u.lent.no_losses g e ∙ sym (root_losses T G g e)) (λ d. u.lost g (omega arith));
    }
