pub mod HeldParents
