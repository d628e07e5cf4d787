-- The table of parts, column after column. A reticulation's index is what is counted at its component's top before it, so one pass over the nodes gives
-- the counts and the indices.
-- Assumes nothing.
use Rattle.std.proofs.Common.{◌≡◌, ◌≢◌, Bool, true, false, ◌&&◌, List, length, set, ℕ, zero, suc, ◌+◌, ◌-◌, ◌≤◌, refl, sym, ap, ◌∙◌, arith}
use mathlib.Core.Bool.{and-true}
use Rattle.std.proofs.Math.Seq.{get_or-set_same, get_or-set_other}
use Rattle.finite.specs.Tests.{under, tally}
use Rattle.finite.specs.Range.{count, any}
use Rattle.finite.specs.Tables.{at, zeros, filled}
use Rattle.finite.proofs.Cases.{by_eq, by_bool}
use Rattle.std.proofs.lemmas.Bool.{and_right}
use Rattle.finite.proofs.Tests.{is_under, not_under}
use Rattle.finite.proofs.Sum.{sum_zero_range, sum_suc}
use Rattle.finite.proofs.Count.{count_same, count_le, count_start, count_turn}
use Rattle.finite.proofs.Every.{some_same}
use Rattle.finite.proofs.Tables.{filled_in, filled_out, filled_zero, zeros_long, zeros_at}
use Rattle.topology.specs.Networks.{Network, Node, Sound, Reticulation}
use Rattle.topology.specs.Components.{component, member_of, reticulation_count, index_of}
use Rattle.topology.specs.Lines.{network as of_lines}
use Rattle.topology.proofs.Lines.{rank_none, rank_is as lines-rank}
use Rattle.topology.proofs.Above.{reticulation_node}
use Rattle.topology.proofs.Components.{component_node, member_is, is_member}
use Rattle.layout.specs.declared.lines.Lines.{Lines}
use Rattle.layout.specs.declared.parts.Parts.{Parts as Table}
use Rattle.layout.specs.declared.networks.SoundNetwork.{SoundNetwork}
use Rattle.layout.specs.Lines.{nodes_in, nodes_of, network_of}
use Rattle.layout.specs.inner.Parts.{top, index, Bare, Parted}
use Rattle.layout.specs.inner.Parts as Parts
use Rattle.layout.proofs.Numbered.{secondary_in, stamp_in}
use Rattle.components.specs.Refusals.{crowded_at, refusal11}
use Rattle.components.specs.inner.Ways.{Ranked}
use Rattle.components.specs.inner.Filling.{blank, rank_at, PartedTo}

-- those of 1..n that pass and are not above v
count_whole : (v : ℕ) (f : ℕ → Bool) → count v (λ q. f q && under q (v + 1)) ≡ count v f
count_whole v f = count_same v _ f (λ q _ u. rw (is_under {m = q} {n = v + 1} (omega arith)) (and-true (f q)))

count_below : (n v : ℕ) (f : ℕ → Bool) → v ≤ n → count n (λ q. f q && under q (v + 1)) ≡ count v f
unfolding count
count_below zero v f l = let e : v ≡ 0 = omega arith in rw e (sum_zero_range _ ∙ sym (sum_zero_range _))
count_below (suc k) v f l = by_eq v (suc k) (λ e. rw (← e) (count_whole v f))
    (λ d. omega (
      arith,
      sum_suc k (λ q. tally (f q && under q (v + 1))),
      ap tally (and_right (f (suc k)) (under (suc k) (v + 1)) (not_under (omega arith))),
      count_below k v f (omega arith),
    ))

-- those of 1..n that pass and are below v
count_before : (n v : ℕ) (f : ℕ → Bool) → 1 ≤ v → v ≤ n → count n (λ q. f q && under q v) ≡ count (v - 1) f
count_before n v f l u = let e : v - 1 + 1 ≡ v = omega arith in rw e at (count_below n (v - 1) f (omega arith))

-- one number more is counted, or not
module _ (v : ℕ) (f : ℕ → Bool) (low : 1 ≤ v) where
  last : v - 1 + 1 ≡ v
  last = omega arith

  count_hit : f v ≡ true → count (v - 1) f + 1 ≡ count v f
  count_hit t = rw last at (count_turn f (v - 1) _ 1 refl (rw (last, t)))

  count_miss : f v ≡ false → count (v - 1) f ≡ count v f
  count_miss t = let e : count (v - 1) f + 0 ≡ count v f = rw last at (count_turn f (v - 1) _ 0 refl (rw (last, t))) in omega arith

-- columns that are bare, and one written at a node
pub bare_zeros : (n : ℕ) → Bare n zeros
bare_zeros n = record { none = zeros_at 0; past = λ v _. zeros_at v }

pub bare_filled : (n : ℕ) (f : ℕ → ℕ) → Bare n (filled n zeros f)
bare_filled n f = record { none = filled_zero n zeros f ∙ zeros_at 0; past = λ v l. filled_out n zeros f v l ∙ zeros_at v }

bare_set : (n : ℕ) (l : List ℕ) (v x : ℕ) → 1 ≤ v → v ≤ n → Bare n l → Bare n (set l v x)
bare_set n l v x a b B = record {
  none = get_or-set_other l v 0 x 0 (λ e. omega arith) ∙ B.none;
  past = λ w q. get_or-set_other l v w x 0 (λ e. omega arith) ∙ B.past w q;
}

module _ {N : Network} (ok : Sound N) where
  open N use {size}

  not_member : (c r : ℕ) → (Reticulation N r → component N r ≢ c) → member_of N c r ≡ false
  not_member c r h = by_bool (member_of N c r) (λ t. let m = member_is N c r t in absurd (h m.0 m.1)) (λ t. t)

  pub parted_end : {t : Table} {v : ℕ} → PartedTo N v t → v ≤ size → size ≤ v → Parted N t
  unfolding reticulation_count
  parted_end {t} {v} P a b = let e : v ≡ size = omega arith in record {
    ranks = P.ranks;
    tops = P.tops;
    counts = λ c k. P.counts c k ∙ ap (λ (m : ℕ). count m (member_of N c)) e;
    indices = λ r d. P.indices r d (omega (arith, reticulation_node N ok r d));
    bare_ranks = P.bare_ranks;
    bare_tops = P.bare_tops;
    bare_counts = P.bare_counts;
    bare_indices = P.bare_indices;
  }

  module _ {t : Table} {v : ℕ} (low : 1 ≤ v) (P : PartedTo N (v - 1) t) where
    -- a node that is no reticulation is not counted
    pub parted_skip : N.secondary v ≡ 0 → PartedTo N v t
    parted_skip e = record {
      ranks = P.ranks;
      tops = P.tops;
      counts = λ c k. P.counts c k ∙ count_miss v (member_of N c) low (not_member c v (λ d. absurd (d e)));
      indices = λ r d u. by_eq r v (λ q. absurd (d (rw q e))) (λ q. P.indices r d (omega arith));
      bare_ranks = P.bare_ranks;
      bare_tops = P.bare_tops;
      bare_counts = P.bare_counts;
      bare_indices = P.bare_indices;
    }

    module _ (few : size ≤ 127) (d : Reticulation N v) where
      node : Node N v
      node = reticulation_node N ok v d

      module _ {c : ℕ} (ec : c ≡ top t v) where
        top_is : c ≡ component N v
        top_is = ec ∙ P.tops v node

        top_node : Node N c
        top_node = rw top_is (component_node N ok v node)

        pub top_fits : c ≤ 127
        top_fits = omega (arith, top_node.high)

        module _ {k : ℕ} (ek : k ≡ Parts.reticulation_count t c) where
          counted : k ≡ count (v - 1) (member_of N c)
          counted = ek ∙ P.counts c top_node

          pub count_fits : k ≤ 127
          count_fits = omega (arith, counted, count_le (v - 1) (member_of N c), node.high)

          index_is : k ≡ index_of N v
          unfolding index_of
          index_is = counted ∙ rw top_is (sym (count_before size v (member_of N (component N v)) low node.high))

          -- a reticulation is counted at its top, and has its index
          module _ (long_counts : length t.reticulation_count ≡ 128) (long_indices : length t.index ≡ 128) where
            counts_next : (w : ℕ) → Node N w → at (set t.reticulation_count c (k + 1)) w ≡ count v (member_of N w)
            counts_next w q = by_eq w c
                (λ e. rw e (get_or-set_same t.reticulation_count c (k + 1) 0 (omega (arith, top_fits, long_counts)) ∙ ap (λ (m : ℕ). m + 1) counted
                ∙ count_hit v (member_of N c) low (is_member N c v d (sym top_is))))
                (λ a. get_or-set_other t.reticulation_count c w (k + 1) 0 a ∙ P.counts w q
                ∙ count_miss v (member_of N w) low (not_member w v (λ _ e. a (sym e ∙ sym top_is))))

            indices_next : (r : ℕ) → Reticulation N r → r ≤ v → at (set t.index v k) r ≡ index_of N r
            indices_next r dr l = by_eq r v
                (λ e. rw e (get_or-set_same t.index v k 0 (omega (arith, node.high, long_indices)) ∙ index_is))
                (λ a. get_or-set_other t.index v r k 0 a ∙ P.indices r dr (omega arith))

            pub parted_next : PartedTo N v (record { rank = t.rank; top = t.top; reticulation_count = set t.reticulation_count c (k + 1); index = set t.index v k })
            parted_next = record {
              ranks = P.ranks;
              tops = P.tops;
              counts = counts_next;
              indices = indices_next;
              bare_ranks = P.bare_ranks;
              bare_tops = P.bare_tops;
              bare_counts = bare_set size t.reticulation_count c (k + 1) top_node.low top_node.high P.bare_counts;
              bare_indices = bare_set size t.index v k node.low node.high P.bare_indices;
            }

-- the turn of a reticulation v, where those below it are counted in t: its top and the count there fit, and with it counted v is done
pub record Counting (N : Network) (v : ℕ) (t : Table) : Type 0 where
  pub top_fits : top t v ≤ 127
  pub count_fits : Parts.reticulation_count t (top t v) ≤ 127
  pub next : length t.reticulation_count ≡ 128 → length t.index ≡ 128
      → PartedTo N v (record {
        rank = t.rank;
        top = t.top;
        reticulation_count = set t.reticulation_count (top t v) (Parts.reticulation_count t (top t v) + 1);
        index = set t.index v (Parts.reticulation_count t (top t v));
      })

-- the columns of ranks and tops
module _ (network : SoundNetwork) where
  abbrev lines : Lines
  lines = network.lines.now

  abbrev N : Network
  N = network_of lines

  rank_is : (v : ℕ) → 1 ≤ v → v ≤ lines.header.nodes → rank_at lines.nodes v ≡ N.rank v
  unfolding rank_at
  rank_is v a b = rw (lines-rank (nodes_of lines) v (λ e. omega arith), secondary_in lines.header.nodes lines.nodes v a b, stamp_in lines.header.nodes lines.nodes v a b)

  ranks_in : (v : ℕ) → v ≤ lines.header.nodes → at (filled lines.header.nodes zeros (rank_at lines.nodes)) v ≡ N.rank v
  ranks_in v u = by_eq v 0
      (λ e. rw e (filled_zero lines.header.nodes zeros (rank_at lines.nodes) ∙ zeros_at 0 ∙ sym (rank_none (nodes_of lines))))
      (λ d. filled_in lines.header.nodes zeros (rank_at lines.nodes) v (omega arith) u (omega (arith, zeros_long, lines.within.few_nodes)) ∙ rank_is v (omega arith) u)

  -- over a table that was lent blank
  pub ranked : (t : Table) → t ≡ blank → (r : List ℕ) → r ≡ filled lines.header.nodes t.rank (rank_at lines.nodes) → Ranked N r
  unfolding of_lines nodes_in
  ranked t b r e = rw (e, b) (record { ranks = ranks_in })

  pub parted_start : (t : Table) → t ≡ blank → (r s : List ℕ) → r ≡ filled lines.header.nodes t.rank (rank_at lines.nodes) → s ≡ filled lines.header.nodes t.top (component N)
      → PartedTo N 0 (record { rank = r; top = s; reticulation_count = t.reticulation_count; index = t.index })
  unfolding of_lines nodes_in
  parted_start t b r s er es = rw (er, es, b) (record {
    ranks = ranks_in;
    tops = λ v k. filled_in lines.header.nodes zeros (component N) v k.low k.high (omega (arith, zeros_long, lines.within.few_nodes));
    counts = λ c k. zeros_at c ∙ count_start (member_of N c);
    indices = λ r d u. absurd (omega (arith, (reticulation_node N network.sound r d).low));
    bare_ranks = bare_filled lines.header.nodes (rank_at lines.nodes);
    bare_tops = bare_filled lines.header.nodes (component N);
    bare_counts = bare_zeros lines.header.nodes;
    bare_indices = bare_zeros lines.header.nodes;
  })

  pub parted_done : (t : Table) (v : ℕ) → v ≤ lines.header.nodes → lines.header.nodes ≤ v → PartedTo N v t → Parted N t
  unfolding of_lines nodes_in
  parted_done t v a b P = parted_end network.sound P a b

  size_few : N.size ≤ 127
  unfolding of_lines nodes_in
  size_few = lines.within.few_nodes

  -- node v, where those below it are counted in t
  module _ (v : ℕ) (limits : (1 ≤ v) × (v ≤ lines.header.nodes)) (t : Table) (P : PartedTo N (v - 1) t) where
    second_is : N.secondary v ≡ at lines.nodes.secondary v
    unfolding of_lines
    second_is = secondary_in lines.header.nodes lines.nodes v limits.0 limits.1

    pub node_skip : at lines.nodes.secondary v ≡ 0 → PartedTo N v t
    node_skip z = parted_skip network.sound limits.0 P (second_is ∙ z)

    pub node_counting : (at lines.nodes.secondary v ≡ 0 → ⊥) → Counting N v t
    node_counting d = record {
      top_fits = top_fits network.sound limits.0 P size_few some refl;
      count_fits = count_fits network.sound limits.0 P size_few some refl refl;
      next = parted_next network.sound limits.0 P size_few some refl refl;
    }
      where
        some : Reticulation N v
        some z = d (sym second_is ∙ z)

-- 11 by the counts at the tops
pub crowded_read : (sheet : Lines) (t : Table) → Parted (network_of sheet) t → any sheet.header.nodes (λ v. under 8 (Parts.reticulation_count t v)) ≡ refusal11 (network_of sheet)
unfolding refusal11 crowded_at of_lines nodes_in
crowded_read sheet t P = some_same sheet.header.nodes _ _ (λ v a b. ap (under 8) (P.counts v (record { low = a; high = b })))
