-- The stores of a location, and the arithmetic sequences that make their values unique: k*n + a in iteration n, after
-- PerpLE (Melissaris, Markakis, Shaw and Martonosi, MICRO 2020). The numbering by thread and then by place is this
-- project's own.
use Rattle.std.specs.Prelude.{ℕ, ◌+◌, ◌*◌, ◌==◌, ◌&&◌, Bool, Option, List, [], ◌∷◌, ◌++◌, length, if◌then◌else◌, slice_get, unwrap_or}
use Rattle.std.specs.List.{position}
use Rattle.std.specs.Option.{option_and_then}
use Rattle.x86_subset.specs.Instr.{is_store_to, location_of}
use Rattle.x86_subset.specs.Test.{Code, LitmusTest, body_of}
use Rattle.x86_subset.specs.declared.instr.Instr.{Instr}
use Rattle.seq_conv.specs.declared.site.Origin.{Origin as OriginOf}
use Rattle.seq_conv.specs.declared.site.Site.{Site as SiteOf}

-- where an action stands in the test: its thread and its place in that thread's body
abbrev pub Site : Type 0
Site = SiteOf

-- a store in an iteration
abbrev pub Origin : Type 0
Origin = OriginOf

-- the store at a site in iteration m
abbrev pub in_iteration : Site → ℕ → Origin
in_iteration s m = record { thread = s.thread; place = s.place; iteration = m }

-- the store of an origin
abbrev pub store_of : Origin → Site
store_of o = record { thread = o.thread; place = o.place }

abbrev pub same_site : Site → Site → Bool
same_site a b = (a.thread == b.thread) && (a.place == b.place)

-- the action at a site
abbrev pub action_at : LitmusTest → Site → Option Instr
action_at test s = slice_get (body_of test s.thread) s.place

-- the location of the action at a site (0 where there is none, as at a fence)
abbrev pub site_location : LitmusTest → Site → ℕ
site_location test s = unwrap_or (option_and_then location_of (action_at test s)) 0

-- the stores to x of a body of thread t whose first action has place p
abbrev pub stores_in_body : ℕ → ℕ → ℕ → List Instr → List Site
stores_in_body x t p [] = []
stores_in_body x t p (action ∷ actions) =
    if is_store_to x action then (record { thread = t; place = p } ∷ stores_in_body x t (p + 1) actions)
    else stores_in_body x t (p + 1) actions

-- the stores to x of bodies of which the first is thread t
abbrev pub stores_in_bodies : ℕ → ℕ → List Code → List Site
stores_in_bodies x t [] = []
stores_in_bodies x t (code ∷ codes) = stores_in_body x t 0 code.actions ++ stores_in_bodies x (t + 1) codes

-- the static stores of a location, by thread and then by place
abbrev pub stores_of : LitmusTest → ℕ → List Site
stores_of test x = stores_in_bodies x 0 test.bodies

-- k of a location: how many static stores it has
abbrev pub store_count : LitmusTest → ℕ → ℕ
store_count test x = length (stores_of test x)

-- a of a store to x: its position among the stores of the location, from 1
abbrev pub rank_of : LitmusTest → ℕ → Site → ℕ
rank_of test x s = unwrap_or (position (same_site s) (stores_of test x)) 0 + 1

-- the value of a store to x in iteration n: k*n + a
abbrev pub value_of : LitmusTest → ℕ → Site → ℕ → ℕ
value_of test x s n = store_count test x * n + rank_of test x s
