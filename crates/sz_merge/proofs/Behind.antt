-- Stores that are merged one after another.
--
-- The key idea: what was put is read whatever follows, so one word more leaves the others as they are. And at most one
-- list of stores begins at a place, so what is read of all words are the merged stores.
use Rattle.std.proofs.Common.{◌≡◌, ℕ, ◌+◌, ◌<◌, ◌≤◌, Bool, true, false, true≢false, List, [], ◌∷◌, ◌++◌, length, map}
use Rattle.std.proofs.Common.{refl, sym, ap, ap₂, subst, ◌∙◌, arith, append_assoc, length-append, ◌*◌, All}
use Rattle.std.proofs.Common.{take, get_or}
use Rattle.std.specs.List.{AllZip}
use Rattle.std.proofs.Math.Nat.{mul-le-mul_right}
use Rattle.std.proofs.lemmas.List.{append-nil, map_push, take_more}
use Rattle.sz_cells.specs.Extent.{Extent}
use Rattle.sz_spec.specs.declared.modes.Mode.{Mode}
use Rattle.sz_spec.specs.declared.modes.Mode.TheVariants as mode
use Rattle.sz_spec.specs.declared.modes.Strategy.{Strategy}
use Rattle.sz_spec.specs.Shapes.{Site}
use Rattle.sz_spec.specs.Modes.{mode_of}
use Rattle.sz_frame.specs.Parts.{Pairing}
use Rattle.sz_region.specs.Putting.{HasShapes, CanPutRegions}
use Rattle.sz_region.specs.FullBytes.{BeginsRegions}
use Rattle.sz_region.specs.LawsStores.{AreRight}
use Rattle.sz_region.proofs.FullStores.{regions-one, regions-read}
use Rattle.sz_region.proofs.ReadShapes.{read-shapes}
use Rattle.sz_store.specs.Kept.{Holding, regions, entries, Keep, stored_in, NodeLineage, is_whole}
use Rattle.sz_store.specs.Stocks.{AreEntries, IsOfItsMode, mode_in}
use Rattle.sz_store.specs.Words.{Begins, BeginEach}
use Rattle.sz_store.proofs.Reading.{each-append, stores-one}
use Rattle.sz_merge.specs.Distinct.{AreKinds}
use Rattle.sz_merge.specs.Merged.{IsMergedTo, IsMergedKeep, kinds_in, kinds_of_holding, IsPartMerged}
use Rattle.sz_merge.specs.Merged.{AreKindsPut, ArePartsMerged, AreRead, AreMerged}

-- ---- one store

-- a store of entries is merged as it is
entries-stay : (s : Site) (h : Holding) → AreEntries h → IsMergedTo s h h × (kinds_of_holding h ≡ [])
entries-stay s (regions rs) are = absurd are
entries-stay s (entries comp es) are = (refl, refl)

pub entries-left : (s : Site) (f : Keep) (old new word kinds after : List ℕ) → AreEntries f.holding → new ≡ old ++ word
    → ((rest : List ℕ) → Begins s (mode_of f.strategy) (new ++ rest) (length old) (length new) f.holding)
    → after ≡ kinds → IsPartMerged s f true old new kinds after
entries-left s f old new word kinds after are added read same =
    let stay = entries-stay s f.holding are in
    record {
      kept = f.holding;
      merged = stay.0;
      word = word;
      added = added;
      read = read;
      counted = same ∙ sym (append-nil kinds) ∙ ap (λ (ns : List ℕ). kinds ++ ns) (sym stay.1);
      left = λ is. refl;
    }

-- region pairs that begin have the operator's shapes
begun-shapes : (s : Site) (m : Mode) (bytes : List ℕ) (at next : ℕ) (rs : List Pairing)
    → Begins s m bytes at next (regions rs) → All (HasShapes s.out s.ins) rs
begun-shapes s mode.Full bytes at next rs begins = read-shapes s.out s.ins bytes at next rs begins
begun-shapes s mode.Pay bytes at next rs begins = absurd begins
begun-shapes s mode.Comp bytes at next rs begins = absurd begins
begun-shapes s mode.Map bytes at next rs begins = absurd begins
begun-shapes s mode.BlackBox bytes at next rs begins = absurd begins

-- region pairs that are kinds are merged as they are
kinds-stay : (s : Site) (m : Mode) (bytes : List ℕ) (at next : ℕ) (h : Holding) (rs : List Pairing) → h ≡ regions rs
    → AreKinds rs → Begins s m bytes at next h → IsMergedTo s h h × (kinds_of_holding h ≡ length rs ∷ [])
kinds-stay s m bytes at next h rs holds are begins =
    let shapes : All (HasShapes s.out s.ins) rs =
    begun-shapes s m bytes at next rs (subst (λ (k : Holding). Begins s m bytes at next k) holds begins) in
    subst (λ (k : Holding). IsMergedTo s k k × (kinds_of_holding k ≡ length rs ∷ [])) (sym holds)
    ((λ i o x inside. refl, are, shapes), refl)

pub pairs-left : (s : Site) (f : Keep) (rs : List Pairing) (count : ℕ) (old new word kinds after : List ℕ)
    → f.holding ≡ regions rs → AreKinds rs → length rs ≡ count → new ≡ old ++ word
    → ((rest : List ℕ) → Begins s (mode_of f.strategy) (new ++ rest) (length old) (length new) f.holding)
    → after ≡ kinds ++ count ∷ [] → IsPartMerged s f true old new kinds after
pairs-left s f rs count old new word kinds after holds are many added read counted =
    let stay =
    kinds-stay s (mode_of f.strategy) (new ++ []) (length old) (length new) f.holding rs holds are (read []) in
    record {
      kept = f.holding;
      merged = stay.0;
      word = word;
      added = added;
      read = read;
      counted = counted ∙ ap (λ (n : ℕ). kinds ++ n ∷ []) (sym many)
          ∙ ap (λ (ns : List ℕ). kinds ++ ns) (sym stay.1);
      left = λ is. refl;
    }

-- region pairs are told by what is kept
pub same-pairs : (rs qs : List Pairing) → regions rs ≡ regions qs → rs ≡ qs
same-pairs rs qs same = cc

-- the mode of a store with region pairs
pub full-mode : (f : Keep) (rs : List Pairing) → IsOfItsMode f → f.holding ≡ regions rs → mode_of f.strategy ≡ mode.Full
full-mode f rs own holds = own ∙ ap mode_in holds

-- the kinds of region pairs are put in their place
pub kinds-merged : (s : Site) (f : Keep) (rs : List Pairing) (count : ℕ) (old new kinds after : List ℕ)
    → AreRight (s.out ∷ s.ins) → IsOfItsMode f → f.holding ≡ regions rs
    → AreKindsPut s.out s.ins rs count old new → after ≡ kinds ++ count ∷ []
    → IsPartMerged s f false old new kinds after
kinds-merged s f rs count old new kinds after right own holds put counted =
    let word = put.word in
    let ms = put.put in
    let long : length new ≡ length old + length word = ap length put.added ∙ length-append old word in
    let begin : (rest : List ℕ) → BeginsRegions s.out s.ins (new ++ rest) (length old) (length new) ms =
    λ rest.
    subst (λ (n : ℕ). BeginsRegions s.out s.ins (new ++ rest) (length old) n ms) (sym long)
    (subst (λ (b : List ℕ). BeginsRegions s.out s.ins b (length old) (length old + length word) ms)
    (sym (ap (λ (b : List ℕ). b ++ rest) put.added ∙ append_assoc old word rest))
    (regions-read s.out s.ins put.table ms old word rest right put.is_word).0) in
    record {
      kept = regions ms;
      merged = subst (λ (h : Holding). IsMergedTo s h (regions ms)) (sym holds) (put.same, put.kinds, put.shapes);
      word = word;
      added = put.added;
      read = λ rest.
          subst (λ (m : Mode). Begins s m (new ++ rest) (length old) (length new) (regions ms))
          (sym (full-mode f rs own holds)) (begin rest);
      counted = counted ∙ ap (λ (n : ℕ). kinds ++ n ∷ []) (sym put.many);
      left = λ is. absurd (true≢false (sym is));
    }

-- region pairs that are read where a store begins are its own
full-read : (s : Site) (h : Holding) (bytes : List ℕ) (next end : ℕ) (rs : List Pairing) → AreRight (s.out ∷ s.ins)
    → Begins s mode.Full bytes 0 end h → BeginsRegions s.out s.ins bytes 0 next rs → end ≤ length bytes
    → next ≤ length bytes → h ≡ regions rs
full-read s (regions qs) bytes next end rs right begins read high within =
    ap regions (regions-one s.out s.ins bytes 0 end next qs rs right begins read high within).0
full-read s (entries comp es) bytes next end rs right begins read high within = absurd begins

pub pairs-read : (s : Site) (m : Mode) (h : Holding) (bytes : List ℕ) (next end : ℕ) (rs : List Pairing)
    → AreRight (s.out ∷ s.ins) → m ≡ mode.Full → Begins s m bytes 0 end h
    → BeginsRegions s.out s.ins bytes 0 next rs → end ≤ length bytes → next ≤ length bytes → h ≡ regions rs
pairs-read s m h bytes next end rs right full begins read high within =
    full-read s h bytes next end rs right (subst (λ (k : Mode). Begins s k bytes 0 end h) full begins) read high within

-- region pairs that are few can be put
pub can-put : (out : Extent) (ins : List Extent) (ms : List Pairing) → All (HasShapes out ins) ms → length ins ≤ 2
    → length ms ≤ 1048576 → CanPutRegions out ins ms
can-put out ins ms shapes two few =
    let wide : length ms * (1 + length ins) ≤ 1048576 * (1 + length ins) = mul-le-mul_right (1 + length ins) few in
    record { each = shapes; inputs = omega arith; few = omega arith; sets = omega arith }

-- ---- one store after another

kinds-append : (xs ys : List Keep) → kinds_in (xs ++ ys) ≡ kinds_in xs ++ kinds_in ys
kinds-append [] ys = refl
kinds-append (x ∷ xs) ys =
    ap (λ (ns : List ℕ). kinds_of_holding x.holding ++ ns) (kinds-append xs ys)
    ∙ sym (append_assoc (kinds_of_holding x.holding) (kinds_in xs) (kinds_in ys))

zip-append : (s : Site) (xs ys cs ds : List Keep) → AllZip (IsMergedKeep s) xs ys → AllZip (IsMergedKeep s) cs ds
    → AllZip (IsMergedKeep s) (xs ++ cs) (ys ++ ds)
zip-append s [] [] cs ds first second = second
zip-append s [] (b ∷ ys) cs ds first second = absurd first
zip-append s (a ∷ xs) [] cs ds first second = absurd first
zip-append s (a ∷ xs) (b ∷ ys) cs ds first second = (first.0, zip-append s xs ys cs ds first.1 second)

pub parts-none : (s : Site) (new kinds : List ℕ) → new ≡ [] → kinds ≡ [] → ArePartsMerged s [] true new kinds
parts-none s new kinds none nil = record {
  after = [];
  merged = tt;
  read = λ rest. ap length none;
  counted = nil;
  left = λ is. refl;
}

-- one store more
part-more : (s : Site) (fs : List Keep) (f : Keep) (was one same : Bool) (old new kinds after : List ℕ)
    → (same ≡ true → (was ≡ true) × (one ≡ true)) → ArePartsMerged s fs was old kinds
    → IsPartMerged s f one old new kinds after → ArePartsMerged s (fs ++ f ∷ []) same new after
part-more s fs f was one same old new kinds after both before part =
    let ts = map (λ (k : Keep). k.strategy) fs in
    let make : Holding → Keep = λ h. record { strategy = f.strategy; holding = h } in
    let g : Keep = make part.kept in
    let listed : map (λ (k : Keep). k.strategy) (fs ++ f ∷ []) ≡ ts ++ f.strategy ∷ [] =
    map_push (λ (k : Keep). k.strategy) fs f in
    record {
      after = before.after ++ g ∷ [];
      merged = zip-append s fs before.after (f ∷ []) (g ∷ []) before.merged ((refl, part.merged), tt);
      read = λ rest.
          let all : new ++ rest ≡ old ++ (part.word ++ rest) =
          ap (λ (b : List ℕ). b ++ rest) part.added ∙ append_assoc old part.word rest in
          let long : length new ≤ length (new ++ rest) = omega (arith, length-append new rest) in
          subst (λ (us : List Strategy). BeginEach s us (new ++ rest) 0 (length new) (before.after ++ g ∷ []))
          (sym listed)
          (each-append s ts (f.strategy ∷ []) (new ++ rest) 0 (length old) (length new) before.after (g ∷ [])
          (subst (λ (b : List ℕ). BeginEach s ts b 0 (length old) before.after) (sym all)
          (before.read (part.word ++ rest)))
          (length new, long, refl, part.read rest, refl));
      counted =
          part.counted ∙ ap (λ (ns : List ℕ). ns ++ kinds_of_holding part.kept) before.counted
          ∙ ap (λ (ns : List ℕ). kinds_in before.after ++ ns) (sym (append-nil (kinds_of_holding part.kept)))
          ∙ sym (kinds-append before.after (g ∷ []));
      left = λ is.
          let were = both is in
          ap₂ (λ (xs : List Keep) (h : Holding). xs ++ make h ∷ []) (before.left were.0) (part.left were.1);
    }

pub parts-more : (s : Site) (fs : List Keep) (i : ℕ) (d : Keep) (was one same : Bool) (old new kinds after : List ℕ)
    → i < length fs → (same ≡ true → (was ≡ true) × (one ≡ true)) → ArePartsMerged s (take i fs) was old kinds
    → IsPartMerged s (get_or fs i d) one old new kinds after → ArePartsMerged s (take (i + 1) fs) same new after
parts-more s fs i d was one same old new kinds after inside both before part =
    subst (λ (gs : List Keep). ArePartsMerged s gs same new after) (sym (take_more fs i d inside))
    (part-more s (take i fs) (get_or fs i d) was one same old new kinds after both before part)

-- ---- all stores

pub parts-read : (s : Site) (ts : List Strategy) (fs : List Keep) (same : Bool) (new kinds : List ℕ)
    → map (λ f. f.strategy) fs ≡ ts → ArePartsMerged s fs same new kinds → AreRead s ts fs new kinds
parts-read s ts fs same new kinds are parts = record {
  after = parts.after;
  merged = parts.merged;
  read = λ rest.
      subst (λ (us : List Strategy). BeginEach s us (new ++ rest) 0 (length new) parts.after) are (parts.read rest);
  counted = parts.counted;
}

-- where each was put as it is, these are read
pub parts-left : (s : Site) (ts : List Strategy) (fs : List Keep) (same : Bool) (new kinds : List ℕ)
    → map (λ f. f.strategy) fs ≡ ts → ArePartsMerged s fs same new kinds → same ≡ true
    → BeginEach s ts new 0 (length new) fs
parts-left s ts fs same new kinds are parts is =
    subst (λ (us : List Strategy). BeginEach s us new 0 (length new) fs) are
    (subst (λ (gs : List Keep). BeginEach s (map (λ (f : Keep). f.strategy) fs) new 0 (length new) gs) (parts.left is)
    (subst (λ (b : List ℕ). BeginEach s (map (λ (f : Keep). f.strategy) fs) b 0 (length new) parts.after)
    (append-nil new) (parts.read [])))

pub merged-read : (s : Site) (list : List Strategy) (before : List Keep) (after : NodeLineage)
    (seen bytes kinds : List ℕ) (next : ℕ) → AreRight (s.out ∷ s.ins)
    → AreRead s (stored_in list) before bytes kinds → seen ≡ bytes
    → BeginEach s (stored_in list) seen 0 next after.stores → after.site ≡ s → after.list ≡ list
    → is_whole after ≡ true → AreMerged s list before after bytes kinds
merged-read s list before after seen bytes kinds next right read same begin site own whole =
    let ts = stored_in list in
    let all : BeginEach s ts bytes 0 (length bytes) read.after =
    subst (λ (b : List ℕ). BeginEach s ts b 0 (length bytes) read.after) (append-nil bytes) (read.read []) in
    let one = stores-one s ts bytes 0 next (length bytes) after.stores read.after right
    (subst (λ (b : List ℕ). BeginEach s ts b 0 next after.stores) same begin) all in
    record {
      site = site;
      same_list = own;
      whole = whole;
      read = subst (λ (fs : List Keep). BeginEach s ts bytes 0 (length bytes) fs) (sym one.0) all;
      each = subst (λ (fs : List Keep). AllZip (IsMergedKeep s) before fs) (sym one.0) read.merged;
      counted = read.counted ∙ ap kinds_in (sym one.0);
    }
