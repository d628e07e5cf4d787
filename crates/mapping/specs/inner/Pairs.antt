-- An inner gene by the places of its children: its place, its event, and the transfers and losses on both ways (01, "Settings and placement").
-- Assumes nothing.
use Rattle.std.specs.Prelude.{◌≡◌, ◌≢◌, Bool, cond, ◌||◌, ℕ, ◌-◌, ◌≤◌}
use Rattle.finite.specs.Tests.{same}
use Rattle.layout.specs.Events.{number}
use Rattle.layout.specs.inner.Tree.{up, lateral}
use Rattle.layout.specs.declared.tree.Tree.{Tree}
use Rattle.layout.specs.declared.events.Event.{Event}
use Rattle.displayed.specs.Displayed.{Displayed, common, way, departure}
use Rattle.displayed.specs.Mapping.{sends}
use Rattle.displayed.specs.inner.Arcs.{move, mark}
use Rattle.mapping.specs.inner.Climbs.{fork_in}
use Rattle.mapping.specs.declared.Way.{Way}
use Rattle.mapping.specs.declared.Steps.{Steps}
use Rattle.mapping.specs.declared.Pair.{Pair}

-- one of the arcs into c and d is secondary
unfoldable pub sent_by : Tree → (c d : ℕ) → Bool
sent_by t c d = lateral t c || lateral t d

-- "2 duplication, when a child sits at the same node; otherwise 3 transfer, if one of the node's two on arcs is secondary, else 1 speciation"
unfoldable pub event_by : (sent : Bool) (b x y : ℕ) → ℕ
event_by sent b x y = cond (same x b || same y b) 2 (cond sent 3 1)

-- what is taken off below a gene that is no duplication was added before
pub record Passable (t : Tree) (event : Event) (w : Way) : Type 0 where
  pub inside : w.last ≤ 127
  pub upper : up t w.last ≤ 127
  pub added : number event ≢ 2 → fork_in t (up t w.last) ≤ w.losses

-- the way of a child: "Losses are the nodes strictly between that have two on arcs, and one more if the parent gene is a duplication and the gene sits
-- elsewhere", so that of a way with every node above its lower end passed the upper end is taken off where the gene there is no duplication
unfoldable pub passed_by : Tree → Event → Way → Steps
passed_by t event w = record { transfers = w.transfers; losses = w.losses - cond (same (number event) 2) 0 (fork_in t (up t w.last)) }

-- the way of a child at x of a gene at b, where `here` tells whether that gene is a duplication
pub record IsSteps (T : Displayed) (here : Bool) (b x : ℕ) (s : Steps) : Type 0 where
  pub transfers : s.transfers ≡ way T (move T) b x
  pub losses : s.losses ≡ way T (mark T) b x - cond here 0 (mark T (departure T b x))

pub record Paired (T : Displayed) (x y : ℕ) (p : Pair) : Type 0 where
  pub node : p.node ≡ common T x y
  pub event : number p.event ≡ event_by (sends T (common T x y)) (common T x y) x y
  pub left : IsSteps T (same x (common T x y) || same y (common T x y)) (common T x y) x p.left
  pub right : IsSteps T (same x (common T x y) || same y (common T x y)) (common T x y) y p.right
