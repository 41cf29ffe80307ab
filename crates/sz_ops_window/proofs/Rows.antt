-- Rows of the definitions, each computed: edges of a reach, of a tap's way, and of what counts.
use Rattle.std.proofs.Common.{◌≡◌, true, false, Some, None, [], ◌∷◌, refl}
use Rattle.std.specs.Prelude.{pos, negsuc}
use Rattle.sz_cells.specs.Extent.{flat, layered}
use Rattle.sz_spec.specs.declared.modes.Dir.TheVariants.{Back, Forward}
use Rattle.sz_ops_window.specs.Taps.{moved, led_before, nine}
use Rattle.sz_ops_window.specs.Sums.{reach_of, times}
use Rattle.sz_ops_window.specs.Least.{is_in_window, with_value}

-- ---- the reach: in the middle all, at a corner what lies in the array, and never another layer

inner : reach_of (flat 3 3) nine (record { row = 1; col = 1 }) ≡ record { top = 0; bottom = 3; left = 0; right = 3 }
inner = refl

corner : reach_of (flat 3 3) nine (record { row = 0; col = 0 }) ≡ record { top = 1; bottom = 3; left = 1; right = 3 }
corner = refl

last-corner : reach_of (flat 3 3) nine (record { row = 2; col = 2 })
    ≡ record { top = 0; bottom = 2; left = 0; right = 2 }
last-corner = refl

second-layer : reach_of (layered 2 2 1) nine (record { row = 2; col = 0 })
    ≡ record { top = 1; bottom = 3; left = 1; right = 2 }
second-layer = refl

first-layer : reach_of (layered 2 2 1) nine (record { row = 1; col = 0 })
    ≡ record { top = 0; bottom = 2; left = 1; right = 2 }
first-layer = refl

-- ---- the way of a tap: backward as it lies, forward the other way

left-of_first : moved Back 0 0 1 ≡ None
left-of_first = refl

left-of_second : moved Back 1 0 1 ≡ Some 0
left-of_second = refl

right-of_first : moved Forward 0 0 1 ≡ Some 1
right-of_first = refl

before-first : moved Forward 0 2 1 ≡ None
before-first = refl

led-back : led_before Back (flat 1 3) (record { rows = 1; cols = 3; weights = pos 2 ∷ pos 0 ∷ pos 0 ∷ [] })
    (record { row = 0; col = 1 }) 3 (record { row = 0; col = 0 }) ≡ true
led-back = refl

led-on : led_before Forward (flat 1 3) (record { rows = 1; cols = 3; weights = pos 2 ∷ pos 0 ∷ pos 0 ∷ [] })
    (record { row = 0; col = 1 }) 3 (record { row = 0; col = 2 }) ≡ true
led-on = refl

no-tap_yet : led_before Back (flat 1 3) (record { rows = 1; cols = 3; weights = pos 2 ∷ pos 0 ∷ pos 0 ∷ [] })
    (record { row = 0; col = 1 }) 0 (record { row = 0; col = 0 }) ≡ false
no-tap_yet = refl

-- ---- what is added, and what counts

zero-empty : times (pos 0) None ≡ Some (pos 0)
zero-empty = refl

two-empty : times (pos 2) None ≡ None
two-empty = refl

two-threes : times (pos 2) (Some (negsuc 2)) ≡ Some (negsuc 5)
two-threes = refl

at-threshold : with_value (pos 100) (Some (pos 105)) (Some (pos 100)) ≡ Some (pos 105)
at-threshold = refl

below-threshold : with_value (pos 100) (Some (pos 7)) (Some (negsuc 0)) ≡ Some (negsuc 0)
below-threshold = refl

first-number : with_value (pos 100) None (Some (pos 99)) ≡ Some (pos 99)
first-number = refl

empty-cell : with_value (pos 100) (Some (pos 7)) None ≡ Some (pos 7)
empty-cell = refl

before-bottom : is_in_window (record { top = 0; bottom = 2; left = 0; right = 1 }) (record { row = 1; col = 0 }) ≡ true
before-bottom = refl

at-bottom : is_in_window (record { top = 0; bottom = 2; left = 0; right = 1 }) (record { row = 2; col = 0 }) ≡ false
at-bottom = refl
