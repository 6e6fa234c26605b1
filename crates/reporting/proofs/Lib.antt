-- The lines, a slice at a time, and what each answer of a push comes to.
mod Ways
